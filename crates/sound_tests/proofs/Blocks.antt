-- Blocks of one value keep what that value keeps.
use Rattle.std.proofs.Common.{ℕ, ◌<◌, ◌≤◌, ℤ, List, [], ◌∷◌, All, take}
use Rattle.std.proofs.lemmas.List.Elements.{All-take, All-from_recursion}
use Rattle.mix_kernel.specs.Bounds.{IsNear, AllNear, AllAtMost}

pub front_near : (b n : ℕ) (xs : List ℤ) → AllNear b xs → AllNear b (take n xs)
front_near b n xs h = All-take (IsNear b) n xs h

pub front_at_most : (b n : ℕ) (xs : List ℕ) → AllAtMost b xs → AllAtMost b (take n xs)
front_at_most b n xs h = All-take (λ g. g ≤ b) n xs h

pub eight_places : (a b c d e f g h : ℕ) → a < 2199023255552 → b < 2199023255552 → c < 2199023255552 → d < 2199023255552
    → e < 2199023255552 → f < 2199023255552 → g < 2199023255552 → h < 2199023255552
    → All (λ x. x < 2199023255552) (a ∷ b ∷ c ∷ d ∷ e ∷ f ∷ g ∷ h ∷ [])
eight_places a b c d e f g h pa pb pc pd pe pf pg ph =
    All-from_recursion (λ x. x < 2199023255552) (a ∷ b ∷ c ∷ d ∷ e ∷ f ∷ g ∷ h ∷ []) (pa, (pb, (pc, (pd, (pe, (pf, (pg, (ph, tt))))))))
