use Rattle.std.proofs.Common.{◌≡◌, length}
use Rattle.std.specs.Prelude.{slice_get, Some}
use Rattle.read_ahead.proofs.FirstLemmas.{IsFirst}
use Rattle.read_ahead.proofs.beginning.supplies.Given as goal

-- each of so many tracks has its supply
abbrev pub invariant-loop-track : goal.invariant-loop-track
invariant-loop-track l = record {
  many : length l.supplies.items ≡ l.track;
  each : (t : _) (p : _) → slice_get l.supplies.items t ≡ Some p → IsFirst l.e t p;
}
