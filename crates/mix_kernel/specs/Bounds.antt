-- How far sums may lie from zero, so that a kernel takes them.
use Rattle.std.specs.Prelude.{ℕ, ◌+◌, ◌≤◌, ℤ, pos, neg_ℤ, ◌≤ℤ◌, List, All}

-- z lies at most b from zero
abbrev pub IsNear : ℕ → ℤ → Type 0
IsNear b z = (neg_ℤ (pos b) ≤ℤ z) × (z ≤ℤ pos b)

abbrev pub AllNear : ℕ → List ℤ → Type 0
AllNear b sums = All (IsNear b) sums

abbrev pub AllAtMost : ℕ → List ℕ → Type 0
AllAtMost b gains = All (λ g. g ≤ b) gains

-- sums go at most c farther from zero
abbrev pub GoesOn : ℕ → List ℤ → List ℤ → Type 0
GoesOn c old new = (b : ℕ) → AllNear b old → AllNear (b + c) new
