-- What is so of a run with its control between two letters, whatever has failed.
use Rattle.std.specs.Prelude.{◌≡◌, ℕ, Bool, true, List, [], ◌∷◌, ◌++◌, reverse}
use Rattle.ses_io.specs.Outside.{MediaOutside, SourceOutside, SinkOutside}
use Rattle.session_model.specs.declared.session.Session.{Session}
use Rattle.session_model.specs.declared.edit.Edit.{Edit}
use Rattle.engine_model.specs.Journal.{Entry}
use Rattle.engine_model.specs.Lines.{Line}
use Rattle.engine_model.specs.Replies.{Reply}
use Rattle.machine_model.specs.Core.{Core}
use Rattle.machine_model.specs.Letters.{Letter}
use Rattle.control_desk.specs.declared.standing.End.TheVariants.{NoLine}
use Rattle.control_desk.specs.GoesOn.{GoesOn}
use Rattle.control_desk.specs.State.{ControlState, Tells, ahead}
use Rattle.control_desk.specs.Standing.{Ended}
use Rattle.control_letter.specs.Shown.{shown_core, standing_by}
use Rattle.serial_laws.specs.Answered.{HasAnswered}
use Rattle.serial_laws.specs.Leads.{HasCome, HasGoneOn}
use Rattle.serial_laws.specs.Standing.{Standing}
use Rattle.serial_laws.specs.Truth.{AllHold}
use Rattle.worker_pair.specs.declared.pair.Pair.{Pair}
use Rattle.worker_pair.specs.Tied.{IsTied}
use Rattle.run_end.specs.Failures.{nothing_failed}
use Rattle.run_end.specs.Started.{Started}
use Rattle.engine_core.specs.Now.{is_played_out}
use Rattle.engine_core.specs.UnderWay.{IsUnderWay}
use Rattle.engine_core.specs.declared.engine.Engine.{Engine}
use Rattle.engine_core.specs.Carrying.{MayCarry}
use Rattle.engine_core.specs.Opening.{Journey, Opening, Way, Given, InRest}
use Rattle.engine_core.specs.Shows.{edits_of, made_of}
use Rattle.engine_core.specs.Serial.{KeepsUp, letters_of}

-- this way, by these lines, leads to this standing
abbrev pub LeadsTo : Session → ℕ → Way → List Line → Standing → Type 0
LeadsTo s cycles (Given letters) lines st = HasCome s cycles (record { letters = letters; lines = lines }) st
LeadsTo s cycles (InRest letters phase) lines st = HasGoneOn s cycles (record { letters = letters; lines = lines }) phase st

-- These lines were taken, and these replies, the newest first, were given to them: by the edits and entries of a run that can make no
-- further cycle, or can.
pub record HasSaid {C O : Type 0} (source : SourceOutside C) (sink : SinkOutside O) (s : Session) (edits : List Edit) (over : Bool) (entries : List Entry) (from : ControlState C O) (lines : List Line)
    (replies : List Reply) (control : ControlState C O) : Type 0 where
  pub goes : GoesOn source sink from lines (reverse replies) control
  -- where control has ended since no line is left, they are all that were to come
  pub last : control.standing ≡ Ended NoLine → Tells source from.script → ahead source from ≡ lines
  -- edits and replies are those of the lines
  pub answered : HasAnswered s lines (standing_by (shown_core s edits entries) control.standing replies)
  -- and what was answered of the journal holds
  pub holds : AllHold over entries replies

-- **The core machine has come there too.**
pub record Follows {V I W : Type 0} (s : Session) (cycles : ℕ) (way : Way) (lines : List Line) (standing_at : Core → Standing) (p : Pair V I W) : Type 0 where
  pub core : Core
  pub tied : IsTied s core p
  pub leads : LeadsTo s cycles way lines (standing_at core)

module _ {V I C W O : Type 0} where
  -- A run may go on with any letter.
  pub record MayGoOn (media : MediaOutside V) (inputs : SourceOutside I) (sinks : SinkOutside W) (started : Started V I W) (e : Engine V I C W O) : Type 0 where
    pub under_way : IsUnderWay media inputs sinks started e.run
    pub may_carry : MayCarry started.begun.records (edits_of e.run) e.control

  -- **A run goes on**, and came by these lines where it is.
  pub record IsGoing (media : MediaOutside V) (inputs : SourceOutside I) (source : SourceOutside C) (sinks : SinkOutside W) (sink : SinkOutside O) (on : Journey V I C W O) (e : Engine V I C W O) : Type 0 where
    pub may : MayGoOn media inputs sinks on.opening.started e
    -- so many cycles are asked for
    pub asked : e.run.pair.butler.cycles ≡ on.opening.cycles
    -- what control has taken and answered
    pub lines : List Line
    pub replies : List Reply
    pub said : HasSaid source sink on.opening.started.begun.session (edits_of e.run) (is_played_out e.run) (made_of e.run) on.opening.control lines replies e.control
    -- while nothing has failed, butler and process are where the core machine is by these letters and lines
    pub follows : nothing_failed e.run.failed ≡ true →
        Follows on.opening.started.begun.session on.opening.cycles on.way lines (λ core. standing_by core e.control.standing replies) e.run.pair
    -- and whatever has failed, a run without letters keeps up with its lines
    pub serial : letters_of on.way ≡ [] → KeepsUp on.opening.started.begun.session on.opening.cycles lines replies e.control.standing e.run

  -- by a letter, whichever came before it
  abbrev pub GoesOnBy : MediaOutside V → SourceOutside I → SourceOutside C → SinkOutside W → SinkOutside O → Opening V I C W O → Letter → Engine V I C W O → Engine V I C W O → Type 0
  GoesOnBy media inputs source sinks sink opening letter old new = (letters : List Letter) → IsGoing media inputs source sinks sink (record { opening = opening; way = Given letters }) old →
      IsGoing media inputs source sinks sink (record { opening = opening; way = Given (letters ++ letter ∷ []) }) new
