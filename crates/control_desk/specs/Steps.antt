-- What a call of control does: which replies go out, and where control stands then.
use Rattle.std.specs.Prelude.{◌≡◌, ◌⊎◌, Bool, true, false, List, [], ◌∷◌, Option, Some, None, Result, Ok, Err}
use Rattle.ses_io.specs.Faults.{failed}
use Rattle.ses_io.specs.Outside.{SourceOutside, SinkOutside, Writes}
use Rattle.ses_io.specs.declared.errors.Failed.{Failed}
use Rattle.session_model.specs.declared.edit.Edit.{Edit}
use Rattle.engine_model.specs.Lines.{Line}
use Rattle.engine_model.specs.Replies.{Reply}
use Rattle.control_desk.specs.declared.progress.Progress.{Progress}
use Rattle.control_desk.specs.declared.standing.End.{End}
use Rattle.control_desk.specs.declared.standing.End.TheVariants.{NoLine, ReadFailed}
use Rattle.control_desk.specs.Seen.{replies_to, edit_of, wait_of}
use Rattle.control_desk.specs.Texts.{reply_texts}
use Rattle.control_desk.specs.Standing.{Standing, Ended, awaiting, cut_off}
use Rattle.control_desk.specs.State.{ControlState, Tells, ahead}
use Rattle.control_desk.specs.GoesOn.{GoesOn}
use Rattle.control_desk.specs.Taking.{IsLegal}

-- ---- what goes out

-- the replies that are written: none to a script
abbrev pub heard : Option (List Line) → List Reply → List Reply
heard None replies = replies
heard (Some lines) replies = []

abbrev pub outcome : Bool → Result (Unit {0}) Failed
outcome true = Err failed
outcome false = Ok tt

-- a reply was written; where there is none, nothing was; and no call writes two
abbrev pub PutsOut : {O : Type 0} → SinkOutside O → List Reply → O → O → Bool → Type 0
PutsOut sink [] old new fault = (new ≡ old) × (fault ≡ false)
PutsOut sink (reply ∷ []) old new fault = Writes sink (reply_texts (reply ∷ [])) old new (outcome fault)
PutsOut sink (reply ∷ another ∷ more) old new fault = ⊥

module _ {C O : Type 0} where
  -- They were, and control stands so unless a write failed. Its lines are as they were.
  pub record Replies (sink : SinkOutside O) (replies : List Reply) (standing : Standing) (old new : ControlState C O) : Type 0 where
    -- whether a write failed
    pub fault : Bool
    pub out : PutsOut sink (heard old.script replies) old.out new.out fault
    pub state : new ≡ record old { out = new.out; standing = cut_off fault standing }

  -- ---- one line

  -- the next line was carried out: an edit is given back, and nothing is answered yet
  pub record CarriesALine (source : SourceOutside C) (sink : SinkOutside O) (seen : Progress) (old : ControlState C O) (given : Option Edit) (new : ControlState C O) : Type 0 where
    pub line : Line
    -- the words of an edit have their forms, and a wait is of 1 to 100,000 cycles
    pub legal : IsLegal line
    pub is_given : given ≡ edit_of line
    pub replies : Replies sink (replies_to seen line) (awaiting seen (wait_of seen line)) (record old { lines = new.lines; script = new.script }) new
    pub goes : GoesOn source sink old (line ∷ []) (replies_to seen line) new

  -- control has ended, and nothing but its lines has changed
  pub record EndsBy (source : SourceOutside C) (sink : SinkOutside O) (why : End) (old : ControlState C O) (given : Option Edit) (new : ControlState C O) : Type 0 where
    pub none : given ≡ None
    pub state : new ≡ record old { lines = new.lines; standing = Ended why }
    pub goes : GoesOn source sink old [] [] new

  -- no line is left
  pub record EndsAtLast (source : SourceOutside C) (sink : SinkOutside O) (old : ControlState C O) (given : Option Edit) (new : ControlState C O) : Type 0 where
    pub ends : EndsBy source sink NoLine old given new
    pub last : Tells source old.script → ahead source old ≡ []

  -- the next line was carried out, or there is none, or a read failed
  abbrev pub CarriesOut : SourceOutside C → SinkOutside O → Progress → ControlState C O → Option Edit → ControlState C O → Type 0
  CarriesOut source sink seen old given new = CarriesALine source sink seen old given new
      ⊎ (EndsAtLast source sink old given new ⊎ EndsBy source sink ReadFailed old given new)
