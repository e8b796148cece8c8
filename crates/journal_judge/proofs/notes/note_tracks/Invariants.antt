-- The tracks up to here are noted, and the others are as they were.
use Rattle.std.proofs.Common.{◌≡◌, ℕ, ◌<◌, ◌≤◌, length, map}
use Rattle.engine_model.specs.Journal.{note_at}
use Rattle.cycle_journal.specs.JournalView.{seen_note}
use Rattle.journal_judge.specs.Counts.{note_after}
use Rattle.journal_judge.specs.Judged.{count_at}
use Rattle.journal_judge.proofs.notes.note_tracks.Given as goal

abbrev pub invariant-loop-t : goal.invariant-loop-t
invariant-loop-t l = record {
  long : length l.tracks ≡ 32;
  noted : (t : ℕ) → t < l.t → count_at l.tracks t ≡ note_after (count_at l.fn.tracks t) (note_at t (map seen_note l.notes));
  others : (t : ℕ) → l.t ≤ t → count_at l.tracks t ≡ count_at l.fn.tracks t;
}
