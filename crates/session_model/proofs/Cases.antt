-- Two cases of a test.
use Rattle.std.proofs.Common.{◌≡◌, Bool, true, false, ◌||◌, refl}

pub by_test : {P : Type 0} (b : Bool) → (b ≡ true → P) → (b ≡ false → P) → P
by_test true there else_ = there refl
by_test false there else_ = else_ refl

pub false_is_true : {P : Type 0} → false ≡ true → P
false_is_true e = absurd (nothing e)
  where
    nothing : false ≡ true → ⊥
    nothing h = cc

pub or_true : (b : Bool) → (b || true) ≡ true
or_true true = refl
or_true false = refl

pub or_false : (b : Bool) → (b || false) ≡ b
or_false true = refl
or_false false = refl
