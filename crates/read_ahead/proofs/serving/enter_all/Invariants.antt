use Rattle.std.proofs.Common.{◌≡◌, length}
use Rattle.std.specs.Prelude.{slice_get}
use Rattle.read_ahead.proofs.EnterLemmas.{EntersAt}
use Rattle.read_ahead.proofs.ListLemmas.{Changed}
use Rattle.read_ahead.proofs.serving.enter_all.Given as goal

abbrev pub invariant-loop-track : goal.invariant-loop-track
invariant-loop-track l = record {
  many : length l.supplies ≡ length l.initial.supplies;
  so_far : Changed (EntersAt l.e) l.track (slice_get l.initial.supplies) (slice_get l.supplies);
}
