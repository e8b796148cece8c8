use Rattle.std.proofs.Common.{◌≡◌, length}
use Rattle.std.specs.Prelude.{All}
use Rattle.piece_item.specs.Blanks.{blank_item}
use Rattle.play_window.proofs.boxes.blanks.Given as goal

abbrev pub invariant-loop-made : goal.invariant-loop-made
invariant-loop-made l = record { count : length l.boxes.items ≡ l.made; blank : All (λ b. b.value ≡ blank_item l.samples) l.boxes.items }
