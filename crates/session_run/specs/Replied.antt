-- What out gets of a command that isn't a run: its own text, or the line that says how it failed.
use Rattle.std.specs.Prelude.{◌≡◌, ◌≢◌, ℕ, ◌⊎◌, List, [], Option, Some, None, Result}
use Rattle.ses_io.specs.Outside.{MediaOutside, SinkOutside, Writes}
use Rattle.ses_io.specs.declared.errors.Failed.{Failed}
use Rattle.cycle_journal.specs.declared.status.Status.{Status}
use Rattle.cycle_journal.specs.declared.status.Status.TheVariants.{Done, OutFault}
use Rattle.fault_lines.specs.Fault.{fault_line, fault_words}
use Rattle.session_play.specs.declared.outcome.Outcome.{Outcome}
use Rattle.session_gen.specs.Gen.{gen_text}
use Rattle.session_play.specs.Unplayed.{Gets, GetsAFront}
use Rattle.session_run.specs.Checked.{IsCheckText}
use Rattle.session_run.specs.Migrated.{IsMigratedText}
use Rattle.session_run.specs.Verified.{IsVerifiedText}
use Rattle.session_run.specs.Tasks.{Task, Runs, Migrates, Checks, Renders, Verifies, Gens}

-- **a command's own text**, by the files: nothing of a render. What a run writes is said with the run; what is no command has none
abbrev pub IsOwnText : {M : Type 0} → MediaOutside M → M → Option Task → List ℕ → Type 0
IsOwnText media before (Some (Runs r)) text = ⊥
IsOwnText media before (Some (Migrates name)) text = IsMigratedText media before name text
IsOwnText media before (Some (Checks name)) text = IsCheckText media before name text
IsOwnText media before (Some (Renders r)) text = text ≡ []
IsOwnText media before (Some (Verifies v)) text = IsVerifiedText media before v text
IsOwnText media before (Some (Gens n)) text = text ≡ gen_text n
IsOwnText media before None text = ⊥

module _ {O : Type 0} (out : SinkOutside O) where
  -- What a command writes to out itself, by its status.
  pub record WritesItsOwn (IsOwn : List ℕ → Type 0) (old new : O) (s : Status) : Type 0 where
    -- at Done a text of its own
    pub done : s ≡ Done → (text : List ℕ) × IsOwn text × Gets out text old new
    -- at OutFault a front of one
    pub cut_off : s ≡ OutFault → (text : List ℕ) × IsOwn text × GetsAFront out text old new
    -- and nothing at every other status
    pub nothing : s ≢ Done → s ≢ OutFault → new ≡ old

  -- **What out gets of it**, by its status.
  pub record Replies (IsOwn : List ℕ → Type 0) (old new : O) (s : Status) : Type 0 where
    -- at Done a text of the command's own
    pub done : s ≡ Done → (text : List ℕ) × IsOwn text × Gets out text old new
    -- at OutFault a front of one
    pub cut_off : s ≡ OutFault → (text : List ℕ) × IsOwn text × GetsAFront out text old new
    -- at every other status the line of that status and nothing else; a front of it where out's count rose
    pub line : s ≢ Done → s ≢ OutFault → Gets out (fault_line s) old new ⊎ GetsAFront out (fault_line s) old new

-- The line of an outcome's status was written, where it has one, and nothing else has changed.
pub record WritesItsLine {M I C W O : Type 0} (out : SinkOutside O) (old new : Outcome M I C W O) : Type 0 where
  pub same : new ≡ record old { world = record old.world { out = new.world.out } }
  pub answer : Result (Unit {0}) Failed
  pub writes : Writes out (fault_line old.status) old.world.out new.world.out answer
  pub untouched : fault_words old.status ≡ None → new.world.out ≡ old.world.out
