-- What a look of all tracks does to a process, and what it answers.
use Rattle.std.specs.Prelude.{◌≡◌, ◌==◌, if◌then◌else◌, ℕ, Bool, true, List, length, reverse, slice_get, Some}
use mathlib.Core.List.{IsPrefix}
use Rattle.ses_io.specs.Outside.{SourceOutside}
use Rattle.session_model.specs.declared.edit.Edit.{Edit}
use Rattle.engine_model.specs.Items.{Kind}
use Rattle.engine_model.specs.Journal.{Entry}
use Rattle.engine_laws.specs.MadeLaws.{LooksStand, HasLookedUp}
use Rattle.edition_log.specs.EditionState.{EditionState as Edition, IsEditionOf}
use Rattle.disk_ring.specs.Receiver.{Receiver}
use Rattle.piece_item.specs.declared.item.Item.{Item}
use Rattle.track_playback.specs.declared.play_position.PlayPosition.{PlayPosition}
use Rattle.track_playback.specs.SpareBoxes.{received_kinds}
use Rattle.track_playback.specs.Answers.{AllLook, AllThere, IsMissing, Waits}
use Rattle.track_playback.specs.Heard.{AllLooked}
use Rattle.process_cycle.specs.declared.process.Look.{Look}
use Rattle.process_cycle.specs.declared.process.Look.TheVariants.{Ready, Short}
use Rattle.process_cycle.specs.ProcessState.{ProcessState, Playing, entries_of, position_of}
use Rattle.process_cycle.specs.Playing.{IsPlaying}

-- A process may look in this edition of a session: the edits that it was given last are a front of the edition's.
pub record MayLook {I W : Type 0} (inputs : SourceOutside I) (at : Playing) (p : ProcessState I W) (e : Edition) : Type 0 where
  pub playing : IsPlaying inputs at p
  pub edition : IsEditionOf at.session e
  pub more : IsPrefix at.edits e.edits

-- Each track was looked at.
pub record LooksAtAll {I W : Type 0} (e : Edition) (old new : ProcessState I W) : Type 0 where
  -- in the edition of this number and in its generation
  pub entered : new.entered ≡ length e.edits
  pub generation : new.generation ≡ e.transport.generation
  -- each once
  pub many : length new.ends.plays.items ≡ length old.ends.plays.items
  pub looks : AllLook (position_of new) old.ends.plays.items old.playbacks new.ends.plays.items new.playbacks

-- What a look of all tracks answers: where the transport rolls, Ready says that each has its piece, and Short that one hasn't.
abbrev pub LookAnswers : {I W : Type 0} → Bool → ProcessState I W → Look → ProcessState I W → Type 0
LookAnswers rolling old Ready new = rolling ≡ true → AllThere (position_of new) new.ends.plays.items
LookAnswers rolling old Short new = (rolling ≡ true) × Waits (position_of new) old.ends.plays.items new.ends.plays.items new.playbacks

-- What it found: Ready, where the transport doesn't roll or each track has its piece; Short, where it rolls and one hasn't.
abbrev pub Finds : {I W : Type 0} → Bool → ProcessState I W → Look → Type 0
Finds rolling p Ready = rolling ≡ true → AllThere (position_of p) p.ends.plays.items
Finds rolling p Short = (rolling ≡ true) × IsMissing (position_of p) p.ends.plays.items

-- what a look doesn't touch
pub record Keeps {I W : Type 0} (old new : ProcessState I W) : Type 0 where
  pub same : new ≡ record old {
    ends = record { plays = new.ends.plays; takes = old.ends.takes; to_butler = old.ends.to_butler; to_control = old.ends.to_control };
    playbacks = new.playbacks;
    entered = new.entered;
    generation = new.generation;
    next = new.next;
  }
  pub plays_room : new.ends.plays.room ≡ old.ends.plays.room

-- how many entries rolled in a generation, by the position; none of a later generation did
abbrev pub rolled_by_now : {I W : Type 0} → ProcessState I W → ℕ → ℕ
rolled_by_now p g = if p.generation == g then p.next else 0

-- ---- a look-up that is over

-- The look-up of track t is over: what its last look noted is beside all that was true by the looks before it.
pub record IsLookedUp (edits : List Edit) (at : PlayPosition) (t : ℕ) (received : List Kind) (tails : List ℕ) (entries : List Entry) : Type 0 where
  pub before : List ℕ
  pub was_true : LooksStand edits at.depth t received before entries
  pub over : HasLookedUp at.depth at.generation at.next received before tails

-- Each track's look-up is over, in the edition that was given last: the next entry may be made of what was received.
pub record HasLooked {I W : Type 0} (at : Playing) (p : ProcessState I W) : Type 0 where
  -- what is held is still held
  pub held : AllLooked (position_of p) p.playbacks
  pub looked_up : (t : ℕ) (r : Receiver Item) → slice_get p.ends.plays.items t ≡ Some r →
      IsLookedUp at.edits (position_of p) t (received_kinds r) (reverse r.tails) (entries_of p)
