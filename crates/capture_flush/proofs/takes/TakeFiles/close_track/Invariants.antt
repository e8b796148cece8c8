-- The takes that were closed so far, and those still to be closed, are those of the track.
use Rattle.std.proofs.Common.{◌≡◌, ◌≤◌, length, drop}
use Rattle.std.specs.Prelude.{All}
use Rattle.std.specs.Option.{option_map_or}
use Rattle.cycle_journal.specs.JournalView.{seen_entries}
use Rattle.capture_flush.specs.Closing.{runs_from, runs_of, HasHeadUnless}
use Rattle.capture_flush.proofs.EndsLemmas.{Walked}
use Rattle.capture_flush.proofs.takes.TakeFiles.close_track.Given as goal

abbrev pub ghost-close_ended : goal.ghost-close_ended
ghost-close_ended g a = g.s

abbrev pub invariant-loop-i : goal.invariant-loop-i
invariant-loop-i g l = record {
  within : l.i ≤ length l.entries;
  few : option_map_or (λ r. r.blocks) l.run 0 ≤ l.i;
  walked : Walked g.M.Media.outside g.s l.fn.self l.track (runs_of l.track (seen_entries l.entries)) (runs_from l.run l.track (seen_entries (drop l.i l.entries))) l.fn.media l.media l.failed;
  heads : g.M.Media.outside.tells → All (HasHeadUnless l.fn.self g.s l.track (g.M.Media.outside.files l.media)) (runs_from l.run l.track (seen_entries (drop l.i l.entries)));
  same : l.self ≡ l.fn.self;
}
