-- Pieces that are appended one after the other.
use Rattle.std.proofs.Common.{◌≡◌, ℕ, List, ◌++◌, append_assoc, ap, ◌∙◌}

pub then_more : {x y : List ℕ} (a b c : List ℕ) → x ≡ a ++ b → y ≡ x ++ c → y ≡ a ++ (b ++ c)
then_more {x} {y} a b c first more = more ∙ ap (λ (t : List ℕ). t ++ c) first ∙ append_assoc a b c
