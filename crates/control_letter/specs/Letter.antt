-- What control does at its letter: what is awaited is answered where it is over, and then the next line is carried out.
use Rattle.std.specs.Prelude.{◌≡◌, ◌≤◌, ◌⊎◌, ℕ, true, false, List, [], ◌∷◌, ◌++◌, length, reverse, Option, Some, None, Result, Ok, Err}
use Rattle.ses_io.specs.Outside.{SourceOutside, SinkOutside}
use Rattle.session_model.specs.declared.session.Session.{Session}
use Rattle.session_model.specs.declared.edit.Edit.{Edit}
use Rattle.engine_model.specs.Edits.{has_quit}
use Rattle.engine_model.specs.Editions.{edition, apply}
use Rattle.engine_model.specs.Lines.{Line}
use Rattle.engine_model.specs.Replies.{Reply}
use Rattle.machine_model.specs.Core.{Core}
use Rattle.edit_resolve.specs.declared.reason.Refusal.{Refusal}
use Rattle.control_desk.specs.declared.progress.Progress.{Progress}
use Rattle.control_desk.specs.Seen.{IsSeenOf}
use Rattle.control_desk.specs.declared.standing.End.TheVariants.{NoLine}
use Rattle.control_desk.specs.State.{ControlState, Tells, ahead}
use Rattle.control_desk.specs.Standing.{Ended, after_due, after_edit, due, is_ended, is_ready}
use Rattle.control_desk.specs.Steps.{Replies, CarriesOut}
use Rattle.control_desk.specs.Texts.{edit_reply}
use Rattle.control_desk.specs.GoesOn.{GoesOn}
use Rattle.control_desk.specs.Laws.{IsAnswer}
use Rattle.serial_laws.specs.Leads.{Carries, IsDue, StaysPut}
use Rattle.control_letter.specs.Shown.{standing_by}

-- the edits with one that was accepted, or as they were
abbrev pub edits_with : Edit → Result ℕ Refusal → List Edit → List Edit
edits_with edit (Ok k) edits = edits ++ edit ∷ []
edits_with edit (Err why) edits = edits

module _ {C O : Type 0} (source : SourceOutside C) (sink : SinkOutside O) (s : Session) where
  -- An edit that a line gave was published, and answered.
  pub record Publishes (edits : List Edit) (edit : Edit) (old : ControlState C O) (edits_now : List Edit) (new : ControlState C O) : Type 0 where
    pub answer : Result ℕ Refusal
    pub is_answer : IsAnswer (apply (edition s edits (length edits)) edit) answer
    pub edits_are : edits_now ≡ edits_with edit answer edits
    pub replies : Replies sink (edit_reply answer ∷ []) (after_edit edit answer) old new
    pub goes : GoesOn source sink old [] (edit_reply answer ∷ []) new

  -- what became of the edit that a line gave, if it gave one
  abbrev pub Finishes : List Edit → Option Edit → ControlState C O → List Edit → ControlState C O → Type 0
  Finishes edits None old edits_now new = (edits_now ≡ edits) × (new ≡ old)
  Finishes edits (Some edit) old edits_now new = Publishes edits edit old edits_now new

  -- The next line was carried out.
  pub record TakesALine (seen : Progress) (edits : List Edit) (old : ControlState C O) (edits_now : List Edit) (new : ControlState C O) : Type 0 where
    pub given : Option Edit
    pub taken : ControlState C O
    pub carries : CarriesOut source sink seen old given taken
    pub finishes : Finishes edits given taken edits_now new

  -- nothing was taken, answered or published, and where control stood it stands, unless no line follows now
  pub record ChangesNothing (c : Core) (replies : List Reply) (old : ControlState C O) (taken : List Line) (given : List Reply) (edits_now : List Edit) (new : ControlState C O) : Type 0 where
    pub none_taken : taken ≡ []
    pub none_given : given ≡ []
    pub same_edits : edits_now ≡ c.edits
    pub stays : StaysPut (standing_by c old.standing replies) (standing_by (record c { edits = edits_now }) new.standing (given ++ replies))

  -- **The letter C.** What was awaited is answered first, where it is over; a line follows only where nothing is awaited then.
  pub record IsLetter (seen : Progress) (edits : List Edit) (old : ControlState C O) (edits_now : List Edit) (new : ControlState C O) : Type 0 where
    pub answered : ControlState C O
    pub replies : Replies sink (due seen old.standing) (after_due seen old.standing) old answered
    pub goes : GoesOn source sink old [] (due seen old.standing) answered
    pub stops : is_ready answered.standing ≡ false → (edits_now ≡ edits) × (new ≡ answered)
    pub goes_on : is_ready answered.standing ≡ true → TakesALine seen edits answered edits_now new

  -- What it comes to: the lines that it took, one or none, and what it answered, the newest first.
  pub record DoesLetter (seen : Progress) (edits : List Edit) (old : ControlState C O) (edits_now : List Edit) (new : ControlState C O) : Type 0 where
    pub taken : List Line
    pub given : List Reply
    pub one : length taken ≤ 1
    pub goes : GoesOn source sink old taken (reverse given) new
    -- where control has ended since no line is left, it took all that were to come
    pub last : is_ended old.standing ≡ false → new.standing ≡ Ended NoLine → Tells source old.script → ahead source old ≡ taken
    -- it is the core machine's letter, by whichever state has these edits and shows just this
    pub carries : (k : ℕ) (c : Core) (replies : List Reply) → IsSeenOf k c seen → c.edits ≡ edits →
        Carries s k (standing_by c old.standing replies) taken (standing_by (record c { edits = edits_now }) new.standing (given ++ replies))
    -- in the serial rest it was due, or nothing has changed but, perhaps, that no line follows
    pub due_or_not : (k : ℕ) (c : Core) (replies : List Reply) → IsSeenOf k c seen → c.edits ≡ edits →
        IsDue s k (standing_by c old.standing replies) taken (standing_by (record c { edits = edits_now }) new.standing (given ++ replies))
        ⊎ ChangesNothing c replies old taken given edits_now new
    -- once a quit was accepted control has ended
    pub unquit : is_ended new.standing ≡ false → has_quit edits_now (length edits_now) ≡ false

-- **Control's calls do its letter**, while its edition hasn't quit.
abbrev pub TheLetterIsDone : {C O : Type 0} → SourceOutside C → SinkOutside O → Type 0
TheLetterIsDone {C} {O} source sink = (s : Session) (seen : Progress) (edits edits_now : List Edit) (old new : ControlState C O) →
    (is_ended old.standing ≡ false → has_quit edits (length edits) ≡ false) → IsLetter source sink s seen edits old edits_now new → DoesLetter source sink s seen edits old edits_now new
