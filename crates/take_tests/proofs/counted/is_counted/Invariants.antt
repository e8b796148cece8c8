-- The takes of the tracks before this one are counted.
use Rattle.std.proofs.Common.{◌≡◌, ◌<◌, ℕ, true}
use Rattle.std.specs.Prelude.{reverse}
use Rattle.cycle_journal.specs.JournalView.{seen_entries}
use Rattle.capture_flush.specs.Finished.{are_counted}
use Rattle.take_tests.proofs.counted.is_counted.Given as goal

abbrev pub invariant-loop-track : goal.invariant-loop-track
invariant-loop-track l = (t : ℕ) → t < l.track → are_counted t (reverse (seen_entries l.entries)) ≡ true
