-- What a cycle does before its entry is noted: the entry as the tracks play, and what it took of each.
use Rattle.std.specs.Prelude.{◌≡◌, ℕ, ℤ, Bool, List, length, slice_get, Some, Result, Ok, Err}
use Rattle.session_model.specs.Valid.{IsValid}
use Rattle.engine_model.specs.Journal as engine
use Rattle.engine_model.specs.Journal.{is_rolling}
use Rattle.edition_log.specs.EditionState.{EditionState as Edition}
use Rattle.disk_ring.specs.Receiver.{Receiver}
use Rattle.disk_ring.specs.Sender.{Sender}
use Rattle.piece_item.specs.declared.item.Item.{Item}
use Rattle.piece_item.specs.declared.take_block.TakeBlock.{TakeBlock}
use Rattle.cycle_journal.specs.declared.entry.Entry.{Entry}
use Rattle.cycle_journal.specs.declared.note.Note.{Note}
use Rattle.cycle_journal.specs.JournalView.{seen_entry, seen_state}
use Rattle.track_capture.specs.declared.capture.TrackCapture.{TrackCapture}
use Rattle.track_playback.specs.Heard.{IsAt, entry_made}
use Rattle.process_cycle.specs.Cycles.{Captures}
use Rattle.process_cycle.specs.ProcessState.{ProcessState, Playing, entries_of, position_of}

-- What no code holds and clauses of a cycle speak of: what is played, what was received of each track, and the entries, newest first.
pub record Cycling : Type 0 where
  pub at : Playing
  pub plays : List (Receiver Item)
  pub entries : List engine.Entry

-- it is of this process
pub record IsCycleOf {I W : Type 0} (on : Cycling) (p : ProcessState I W) : Type 0 where
  pub plays : on.plays ≡ p.ends.plays.items
  pub entries : on.entries ≡ entries_of p

-- whether a call came to its end, whatever it gives
abbrev pub done : {A E : Type 0} → Result A E → Result (Unit {0}) E
done (Ok a) = Ok tt
done (Err e) = Err e

-- each track was captured, of a block of the input with so many channels: the counts after it, the notes before and after it, and the rings
abbrev pub AllCaptured : Edition → Bool → List engine.Entry → ℕ → List ℤ → List TrackCapture → List Note → List Note → List (Sender TakeBlock) → List (Sender TakeBlock) → Type 0
AllCaptured e rolls before channels input captures firsts notes olds news = (t : ℕ) (k : TrackCapture) (was noted : Note) (d f : Sender TakeBlock) → slice_get captures t ≡ Some k →
    slice_get firsts t ≡ Some was → slice_get notes t ≡ Some noted → slice_get olds t ≡ Some d → slice_get news t ≡ Some f → Captures e rolls before t channels input was noted d f k

-- The entry was made, and each track captured.
pub record IsMade {I W : Type 0} (e : Edition) (old new : ProcessState I W) (made : Entry) : Type 0 where
  pub valid : IsValid e.session
  -- the entry as it is played, of which nothing was taken yet
  pub first : Entry
  pub seen : seen_entry first ≡ entry_made (length e.edits) e.transport.rolling (position_of old) old.ends.plays.items
  pub rolls : IsAt (position_of old) first.state
  -- but for notes it is the one made
  pub same_entry : made ≡ record first { notes = made.notes }
  -- each track has a note, a count of its takes and a ring, as before
  pub notes : length made.notes.items ≡ length first.notes.items
  pub captures : length new.captures ≡ length old.captures
  pub takes : length new.ends.takes.items ≡ length old.ends.takes.items
  pub takes_room : new.ends.takes.room ≡ old.ends.takes.room
  -- what was taken of it
  pub captured : AllCaptured e (is_rolling (seen_state first.state)) (entries_of old) new.input.stream.form.channels new.input.samples
      new.captures first.notes.items made.notes.items old.ends.takes.items new.ends.takes.items
  -- blocks of the input stay as long
  pub frames : new.input.block ≡ old.input.block
  -- nothing else changes
  pub same : new ≡ record old {
    input = new.input;
    master = new.master;
    ends = record { plays = old.ends.plays; takes = new.ends.takes; to_butler = old.ends.to_butler; to_control = old.ends.to_control };
    captures = new.captures;
  }
