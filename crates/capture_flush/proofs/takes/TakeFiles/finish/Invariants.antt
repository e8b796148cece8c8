-- The takes of the tracks so far were closed.
use Rattle.std.proofs.Common.{◌≡◌, ◌≤◌, length}
use Rattle.cycle_journal.specs.JournalView.{seen_entries}
use Rattle.capture_flush.specs.Closing.{Ends, all_runs}
use Rattle.capture_flush.proofs.takes.TakeFiles.finish.Given as goal

abbrev pub ghost-close_track : goal.ghost-close_track
ghost-close_track g a = g.run.session

abbrev pub invariant-loop-track : goal.invariant-loop-track
invariant-loop-track g l = record {
  within : l.track ≤ length g.run.session.tracks.items;
  ends : Ends g.M.Media.outside g.run.session (all_runs l.fn.self (seen_entries l.j.items) 0 l.track) l.fn.media l.media l.failed;
  same : l.self ≡ l.fn.self;
}
