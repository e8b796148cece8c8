use Rattle.std.proofs.Common.{◌≡◌, length}
use Rattle.std.specs.Prelude.{slice_get}
use Rattle.read_ahead.proofs.EnterLemmas.{ShutAt}
use Rattle.read_ahead.proofs.ListLemmas.{Changed}
use Rattle.read_ahead.proofs.serving.close_all.Given as goal

abbrev pub invariant-loop-track : goal.invariant-loop-track
invariant-loop-track l = record {
  many : length l.sends ≡ length l.initial.sends;
  so_far : Changed ShutAt l.track (slice_get l.initial.sends) (slice_get l.sends);
}
