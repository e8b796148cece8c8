use Rattle.std.proofs.Common.{◌≡◌, length}
use Rattle.std.specs.Prelude.{All}
use Rattle.capture_tests.proofs.rings.blanks.Given as goal

abbrev pub invariant-loop-made : goal.invariant-loop-made
invariant-loop-made l = record {
  count : length l.blanks.items ≡ l.made;
  room : All (λ b. length b.value.samples.items ≡ l.samples) l.blanks.items;
}
