-- A process on a bench, as tests have it: what is so of its session and of itself.
use Rattle.std.specs.Prelude.{◌≡◌, ℕ, ◌≤◌, Bool, true, false, List, [], length, take}
use Rattle.ses_io.specs.Outside.{SourceOutside, SinkOutside}
use Rattle.session_model.specs.declared.session.Session.{Session}
use Rattle.session_model.specs.Valid.{IsValid}
use Rattle.edition_log.specs.EditionState.{EditionState as Edition, IsEditionOf}
use Rattle.process_cycle.specs.ProcessState.{ProcessState, Playing}
use Rattle.process_cycle.specs.Playing.{IsPlaying}
use Rattle.process_cycle.specs.Looked.{HasLooked}

-- the session, and edition 0 of it
pub record IsOpened (s : Session) (e : Edition) : Type 0 where
  pub valid : IsValid s
  pub session_is : e.session ≡ s
  pub edition_of : IsEditionOf s e
  pub no_edit : e.edits ≡ []

-- the session that was opened, the first so many edits of an edition, and the bytes of the input; the master was empty
abbrev pub playing_by : Session → Edition → ℕ → List ℕ → Playing
playing_by s e n start = record { session = s; edits = take n e.edits; start = start; before = [] }

-- where the process stands
pub record Stand : Type 0 where
  -- its header wasn't written
  pub fresh : Bool
  -- it looked since its last cycle
  pub looked : Bool
  -- nothing may follow
  pub stopped : Bool

-- it did nothing yet
pub record IsFresh {I W : Type 0} (sinks : SinkOutside W) (at : Stand) (p : ProcessState I W) : Type 0 where
  pub goes_on : at.stopped ≡ false
  pub no_look : at.looked ≡ false
  pub none : p.journal.items ≡ []
  pub empty : sinks.held p.master.sink ≡ []

-- it plays the session by the first so many edits of an edition, and may look in the edition
pub record IsOnBench {I W : Type 0} (inputs : SourceOutside I) (sinks : SinkOutside W) (s : Session) (e : Edition) (played : ℕ) (start : List ℕ) (at : Stand) (p : ProcessState I W) : Type 0 where
  pub few : played ≤ length e.edits
  pub edition_of : IsEditionOf s e
  pub fresh : at.fresh ≡ true → IsFresh sinks at p
  pub playing : at.stopped ≡ false → IsPlaying inputs (playing_by s e played start) p
  pub looked : at.looked ≡ true → HasLooked (playing_by s e played start) p

-- what it is given: an opened session, so many cycles, its input, of which it has the bytes, and a master that holds nothing
pub record IsGiven {I W : Type 0} (inputs : SourceOutside I) (sinks : SinkOutside W) (s : Session) (e : Edition) (cycles : ℕ) (start : List ℕ) (input : I) (master : W) : Type 0 where
  pub opened : IsOpened s e
  pub few : cycles ≤ 100000
  pub has : inputs.left input ≡ start
  pub empty : sinks.held master ≡ []
