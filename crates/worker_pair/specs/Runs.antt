-- What is so of the workers between two steps, whatever their calls have answered.
use Rattle.std.specs.Prelude.{◌≡◌, ◌<◌, ◌≤◌, Bool, true, false, List, [], length, take, All}
use Rattle.std.specs.List.{list_all}
use mathlib.Core.List.{IsPrefix}
use Rattle.ses_io.specs.Outside.{MediaOutside, SourceOutside, SinkOutside}
use Rattle.session_model.specs.declared.edit.Edit.{Edit}
use Rattle.engine_model.specs.Edits.{keeps_forms}
use Rattle.edition_log.specs.EditionState.{IsEditionOf}
use Rattle.butler.specs.Serving.{IsServing, IsTrueTo}
use Rattle.master_blocks.specs.State.{IsMasterOf}
use Rattle.process_ends.specs.Ends.{AreOtherEnds}
use Rattle.process_cycle.specs.Captured.{Hears}
use Rattle.process_cycle.specs.ProcessState.{entries_of, sound_of}
use Rattle.process_cycle.specs.Promised.{Promises, IsMastered}
use Rattle.process_cycle.specs.Playing.{IsPlaying}
use Rattle.worker_pair.specs.declared.ending.Ending.{Ending}
use Rattle.worker_pair.specs.declared.pair.Pair.{Pair}
use Rattle.worker_pair.specs.Begun.{Begun, At, playing_at}
use Rattle.worker_pair.specs.Met.{HaveMet}
use Rattle.worker_pair.specs.Never.{NeverRecords, NothingIsTaken}
use Rattle.worker_pair.specs.Takes.{FilesStand}
use Rattle.worker_pair.specs.Tied.{rings_of}

-- The butler serves the session, and its ends have met those of the process.
pub record Serves {V : Type 0} (media : MediaOutside V) (at : At) (e : Ending V) : Type 0 where
  -- the newest edition is one of the session
  pub edition_of : IsEditionOf at.begun.session e.edition
  -- the edits that the butler entered last are the first of its edits
  pub served_of : IsPrefix at.served e.edition.edits
  pub serving : IsServing at.begun.session at.served e.butler
  -- the ends are those of the same rings, and have met
  pub others : AreOtherEnds e.ends e.butler.ends
  pub met : HaveMet e.ends e.butler.ends
  -- where nothing is to be recorded, no edition has recorded and nothing was captured
  pub never : at.begun.records ≡ false → NeverRecords at.begun.session e.edition.edits
  pub no_take : at.begun.records ≡ false → NothingIsTaken e.ends.takes.items
  -- of the files only takes have changed, and all that was sent is true to those that stood at first
  pub files : FilesStand media at.begun e.butler
  pub true_to : media.tells → IsTrueTo at.begun.files at.begun.session at.served e.butler

module _ {V I W : Type 0} where
  -- the edits of the edition in which the process looked last, by its own number
  abbrev pub given_last : Pair V I W → List Edit
  given_last p = take p.process.entered p.edition.edits

  -- The process has an edition of its own, in which a cycle may be open.
  pub record HasEntered (at : At) (p : Pair V I W) : Type 0 where
    -- it is one of the session, and the newest goes on from it; an edit may follow, unless it has quit
    pub edition_of : IsEditionOf at.begun.session p.playing
    pub begins : IsPrefix p.playing.edits p.edition.edits
    pub not_ended : p.playing.ended ≡ false
    pub newest_not_ended : p.edition.ended ≡ false
    -- all edits are as control lines have them
    pub forms : list_all keeps_forms p.edition.edits ≡ true
    -- a cycle is open only where there is room for its entry, in an edition that hasn't quit
    pub room : p.in_cycle ≡ true → length p.process.journal.items < p.process.journal.room
    pub unended : p.in_cycle ≡ true → p.playing.transport.quit ≡ false
    -- it looked last in an edition with so many of these edits as it says
    pub few : p.process.entered ≤ length p.playing.edits
    pub played : at.played ≡ given_last p

  -- Control has the other end of its own ring, from which it takes nothing.
  pub record HasControl (p : Pair V I W) : Type 0 where
    pub ring : p.acks.ring ≡ p.process.ends.to_control.ring
    pub none_taken : p.acks.received ≡ []
    -- each head by which its `put` answered Full is at most what the process knows to be received of it
    pub heads : All (λ h. h ≤ p.process.ends.to_control.got) p.process.ends.to_control.heads

  -- **What stands even after a fault of a cycle**: the butler serves, and the process keeps its promises.
  pub record Rests (media : MediaOutside V) (at : At) (p : Pair V I W) : Type 0 where
    pub serves : Serves media at (rings_of p)
    pub entered : HasEntered at p
    pub control : HasControl p
    pub promises : Promises (playing_at at) (entries_of p.process) p.process.ends
    pub master : IsMasterOf at.begun.session p.process.master
    -- the journal has room for the cycles that were asked
    pub asked : p.process.journal.room ≡ p.butler.cycles

  -- **The workers run**, and no cycle has failed. Once the header was written, the master holds a block for each entry.
  pub record Runs (media : MediaOutside V) (inputs : SourceOutside I) (sinks : SinkOutside W) (at : At) (p : Pair V I W) : Type 0 where
    pub serves : Serves media at (rings_of p)
    pub entered : HasEntered at p
    pub control : HasControl p
    pub playing : IsPlaying inputs (playing_at at) p.process
    pub mastered : at.header ≡ true → IsMastered sinks (playing_at at) p.process
    pub asked : p.process.journal.room ≡ p.butler.cycles

  -- **What was captured is of one sound**, and that is the input's where it tells. It stands whatever fails.
  abbrev pub HearsInput : SourceOutside I → At → Pair V I W → Type 0
  HearsInput inputs at p = Hears inputs.tells (sound_of (playing_at at) p.process) at.begun.session (entries_of p.process) p.process.ends.takes.items

  -- the lists as the workers' own numbers say them
  abbrev pub at_now : Begun → Bool → Pair V I W → At
  at_now begun header p = record { begun = begun; header = header; served = take p.butler.entered p.edition.edits; played = given_last p }
