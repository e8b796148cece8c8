-- Numbers that are apart: below a bound there are no more of them than the bound.
use Rattle.std.proofs.Common.{◌≡◌, inl, inr, ℕ, zero, suc, ◌+◌, ◌*◌, ◌<◌, ◌≤◌, List, [], ◌∷◌, length, refl, sym, ap, subst, arith, ◌∙◌}
use Rattle.std.specs.Prelude.{Bool, true, false, ◌&&◌, not, ◌==◌, nat_lt, if◌then◌else◌}
use Rattle.std.specs.List.{list_all}
use Rattle.std.proofs.Math.Nat.{suc-mul, mul-le-mul_right}
use Rattle.std.proofs.lemmas.Bool.{and_parts, and_from, ltb-true, lt-ltb, eqb-true, eqb-false, or_parts, or_from, cases_order, not-true, not_from_false}
use Rattle.engine_model.specs.Items.{among}

-- ---- numbers that are apart

abbrev pub apart : List ℕ → Bool
apart [] = true
apart (x ∷ xs) = not (among x xs) && apart xs

abbrev without : ℕ → List ℕ → List ℕ
without n [] = []
without n (x ∷ xs) = if x == n then xs else x ∷ without n xs

long_without : (n : ℕ) (xs : List ℕ) → length xs ≤ suc (length (without n xs))
long_without n [] = omega arith
long_without n (x ∷ xs) = by (x == n) (long_without n xs)
  where
    by : (b : Bool) → length xs ≤ suc (length (without n xs)) → suc (length xs) ≤ suc (length (if b then xs else x ∷ without n xs))
    by true h = omega arith
    by false h = omega (arith, h)

among_without : (k n : ℕ) (xs : List ℕ) → among k xs ≡ false → among k (without n xs) ≡ false
among_without k n [] h = refl
among_without k n (x ∷ xs) h = let parts = or_parts (x == k) (among k xs) h in by (x == n) (parts.0) (parts.1) (among_without k n xs parts.1)
  where
    by : (b : Bool) → (x == k) ≡ false → among k xs ≡ false → among k (without n xs) ≡ false → among k (if b then xs else x ∷ without n xs) ≡ false
    by true e there rest = there
    by false e there rest = or_from (x == k) (among k (without n xs)) e rest

apart_without : (n : ℕ) (xs : List ℕ) → apart xs ≡ true → apart (without n xs) ≡ true
apart_without n [] h = refl
apart_without n (x ∷ xs) h = let parts = and_parts (not (among x xs)) (apart xs) h in by (x == n) parts.0 parts.1 (apart_without n xs parts.1)
  where
    by : (b : Bool) → not (among x xs) ≡ true → apart xs ≡ true → apart (without n xs) ≡ true → apart (if b then xs else x ∷ without n xs) ≡ true
    by true new old rest = old
    by false new old rest = and_from (not (among x (without n xs))) (apart (without n xs)) (not_from_false (among x (without n xs)) (among_without x n xs (not-true (among x xs) new))) rest

none_is : (n : ℕ) (xs : List ℕ) → among n xs ≡ false → list_all (λ x. nat_lt x (suc n)) xs ≡ true → list_all (λ x. nat_lt x n) xs ≡ true
none_is n [] new h = refl
none_is n (x ∷ xs) new h = let parts = and_parts (nat_lt x (suc n)) (list_all (λ y. nat_lt y (suc n)) xs) h in let others = or_parts (x == n) (among n xs) new in
    and_from (nat_lt x n) (list_all (λ y. nat_lt y n) xs) (lt-ltb x n (by (ltb-true x (suc n) parts.0) (eqb-false x n others.0))) (none_is n xs others.1 parts.1)
  where
    by : x < suc n → (x ≡ n → ⊥) → x < n
    by lt ne = elim (cases_order x n) [ inl e ↦ absurd (ne e) | inr (inl l) ↦ l | inr (inr g) ↦ omega (arith, lt, g) ]

below_without : (n : ℕ) (xs : List ℕ) → apart xs ≡ true → list_all (λ x. nat_lt x (suc n)) xs ≡ true → list_all (λ x. nat_lt x n) (without n xs) ≡ true
below_without n [] a h = refl
below_without n (x ∷ xs) a h = let parts = and_parts (nat_lt x (suc n)) (list_all (λ y. nat_lt y (suc n)) xs) h in let new = and_parts (not (among x xs)) (apart xs) a in
    by (x == n) refl (ltb-true x (suc n) parts.0) (not-true (among x xs) new.0) parts.1 (below_without n xs new.1 parts.1)
  where
    by : (b : Bool) → (x == n) ≡ b → x < suc n → among x xs ≡ false → list_all (λ y. nat_lt y (suc n)) xs ≡ true → list_all (λ y. nat_lt y n) (without n xs) ≡ true →
        list_all (λ y. nat_lt y n) (if b then xs else x ∷ without n xs) ≡ true
    by true e lt new all rest = none_is n xs (subst (λ k. among k xs ≡ false) (eqb-true x n e) new) all
    by false e lt new all rest = and_from (nat_lt x n) (list_all (λ y. nat_lt y n) (without n xs)) (lt-ltb x n (less (eqb-false x n e))) rest
      where
        less : (x ≡ n → ⊥) → x < n
        less ne = elim (cases_order x n) [ inl e ↦ absurd (ne e) | inr (inl l) ↦ l | inr (inr g) ↦ omega (arith, lt, g) ]

-- below a bound there are no more of them than the bound
pub pigeons : (n : ℕ) (xs : List ℕ) → apart xs ≡ true → list_all (λ x. nat_lt x n) xs ≡ true → length xs ≤ n
pigeons zero [] a h = omega arith
pigeons zero (x ∷ xs) a h = let low = ltb-true x 0 (and_parts (nat_lt x 0) (list_all (λ y. nat_lt y 0) xs) h).0 in absurd (omega (arith, low))
pigeons (suc n) xs a h = let fewer = pigeons n (without n xs) (apart_without n xs a) (below_without n xs a h) in omega (arith, long_without n xs, fewer)

-- ---- numbers in two digits

apart_digits : (n a b c d : ℕ) → b < n → d < n → a < c → a * n + b ≡ c * n + d → ⊥
apart_digits n a b c d lb ld lt e = let high : suc a * n ≤ c * n = mul-le-mul_right n lt in let next = suc-mul a n in omega (arith, high, next, e, lb)

pub digits : (n a b c d : ℕ) → b < n → d < n → a * n + b ≡ c * n + d → (a ≡ c) × (b ≡ d)
digits n a b c d lb ld e = elim (cases_order a c) [
  | inl same ↦ (same, by same)
  | inr (inl lt) ↦ absurd (apart_digits n a b c d lb ld lt e)
  | inr (inr gt) ↦ absurd (apart_digits n c d a b ld lb gt (sym e))
]
  where
    by : a ≡ c → b ≡ d
    by same = let e' = ap (λ k. k * n + b) (sym same) ∙ e in omega (arith, e')

pub below_digits : (n a b m : ℕ) → a < m → b < n → a * n + b < m * n
below_digits n a b m la lb = let high : suc a * n ≤ m * n = mul-le-mul_right n la in let next = suc-mul a n in omega (arith, high, next, lb)
