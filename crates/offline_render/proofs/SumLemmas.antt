-- Sums of routes: what one more number leaves of them, and how near they stay.
use Rattle.std.proofs.Common.{◌≡◌, ℕ, ◌+◌, ◌<◌, ◌≤◌, List, length, get_or, set, ap, sym, subst, ◌∙◌, arith}
use Rattle.std.specs.Prelude.{ℤ, pos, ◌+ℤ◌}
use Rattle.std.proofs.Common.{inl, inr, w64, to_z, of_z}
use Rattle.std.proofs.lemmas.Int.{ints}
use Rattle.std.proofs.lemmas.Bool.{cases_eq}
use Rattle.std.proofs.lemmas.List.{get_or-set_same, get_or-set_other, length-set}
use Rattle.std.proofs.lemmas.List.Elements.{All-get_or, All-from_get_or, All-weaker}
use Rattle.mix_kernel.specs.Bounds.{IsNear, AllNear, GoesOn}
use Rattle.mix_kernel.proofs.Formulas.{sum-near}

-- two numbers that are far from the ends of 64 bits
pub added : (a b : ℤ) → IsNear 1125899906842624 a → IsNear 34359738368 b → to_z w64 (of_z w64 (to_z w64 (of_z w64 a) +ℤ to_z w64 (of_z w64 b))) ≡ a +ℤ b
added a b near more = omega (arith, ints)

near_wider : (n m : ℕ) (z : ℤ) → n ≤ m → IsNear n z → IsNear m z
near_wider n m z h near = (omega (arith, ints), omega (arith, ints))

-- one sum more goes no farther than what it takes
pub one_goes_on : (sums : List ℤ) (to m : ℕ) (v : ℤ) → to < length sums → IsNear m v → GoesOn m sums (set sums to (get_or sums to (pos 0) +ℤ v))
one_goes_on sums to m v h near b all =
    All-from_get_or (IsNear (b + m)) (set sums to (get_or sums to (pos 0) +ℤ v)) (pos 0) each
  where
    one : IsNear (b + m) (get_or sums to (pos 0) +ℤ v)
    one = sum-near (get_or sums to (pos 0)) v b m (All-get_or (IsNear b) sums to (pos 0) h all) near

    each : (k : ℕ) → k < length (set sums to (get_or sums to (pos 0) +ℤ v)) → IsNear (b + m) (get_or (set sums to (get_or sums to (pos 0) +ℤ v)) k (pos 0))
    each k l = let within : k < length sums = omega (arith, length-set sums to (get_or sums to (pos 0) +ℤ v)) in
        elim (cases_eq k to) [
          | inl e ↦ subst (IsNear (b + m)) (sym (ap (λ i. get_or (set sums to (get_or sums to (pos 0) +ℤ v)) i (pos 0)) e ∙ get_or-set_same sums to (get_or sums to (pos 0) +ℤ v) (pos 0) h)) one
          | inr ne ↦ subst (IsNear (b + m)) (sym (get_or-set_other sums to k (get_or sums to (pos 0) +ℤ v) (pos 0) ne))
              (near_wider b (b + m) (get_or sums k (pos 0)) (omega arith) (All-get_or (IsNear b) sums k (pos 0) within all))
        ]

pub all_wider : (n m : ℕ) (zs : List ℤ) → n ≤ m → AllNear n zs → AllNear m zs
all_wider n m zs h all = All-weaker (IsNear n) (IsNear m) (λ z. near_wider n m z h) zs all

pub goes_then : (m n : ℕ) (old mid new : List ℤ) → GoesOn m old mid → GoesOn n mid new → GoesOn (m + n) old new
goes_then m n old mid new a b k near = all_wider (k + m + n) (k + (m + n)) new (omega arith) (b (k + m) (a k near))

pub goes_wider : (m n : ℕ) (old new : List ℤ) → m ≤ n → GoesOn m old new → GoesOn n old new
goes_wider m n old new h goes k near = all_wider (k + m) (k + n) new (omega arith) (goes k near)
