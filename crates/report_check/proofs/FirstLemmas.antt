-- The first that falls of lists that stand one behind the other.
use Rattle.std.proofs.Common.{◌≡◌, ℕ, zero, suc, ◌+◌, ◌<◌, refl, ap, arith, ◌∙◌, sym, List, [], ◌∷◌, ◌++◌, length}
use Rattle.std.specs.Prelude.{Bool, true, false, map, Option, Some, None}
use Rattle.std.specs.List.{range_with_len}
use Rattle.std.specs.Option.{option_map, is_some}
use Rattle.report_verdict.specs.Lines.{first_fall}

-- the first of two lists, of which one has so many
abbrev pub behind : Option ℕ → ℕ → Option ℕ → Option ℕ
behind (Some k) n later = Some k
behind None n later = option_map (λ k. n + k) later

on_by_none : (o : Option ℕ) → o ≡ option_map (λ k. 0 + k) o
on_by_none None = refl
on_by_none (Some k) = let same : k ≡ 0 + k = omega arith in ap Some same

one_on : (o : Option ℕ) (n : ℕ) (later : Option ℕ) → option_map suc (behind o n later) ≡ behind (option_map suc o) (suc n) later
one_on (Some k) n later = refl
one_on None n None = refl
one_on None n (Some k) = let same : suc (n + k) ≡ suc n + k = omega arith in ap Some same

pub fall_of_both : (xs ys : List Bool) → first_fall (xs ++ ys) ≡ behind (first_fall xs) (length xs) (first_fall ys)
fall_of_both [] ys = on_by_none (first_fall ys)
fall_of_both (false ∷ xs) ys = refl
fall_of_both (true ∷ xs) ys = ap (option_map suc) (fall_of_both xs ys) ∙ one_on (first_fall xs) (length xs) (first_fall ys)

pub found_first : (o : Option ℕ) (n : ℕ) (later : Option ℕ) → is_some o ≡ true → behind o n later ≡ o
found_first (Some k) n later e = refl
found_first None n later e = absurd cc

pub none_first : (o : Option ℕ) → is_some o ≡ false → o ≡ None
none_first None e = refl
none_first (Some k) e = absurd cc

-- of a range, where what is before one stands and that one falls
pub range_falls : (f : ℕ → Bool) (i n k : ℕ) → k < n → ((j : ℕ) → j < k → f (i + j) ≡ true) → f (i + k) ≡ false → first_fall (map f (range_with_len i n)) ≡ Some k
range_falls f i zero k less stood fell = absurd (omega (arith, less))
range_falls f i (suc n) zero less stood fell = let on : i + 0 ≡ i = omega arith in
    ap (λ b. first_fall (b ∷ map f (range_with_len (i + 1) n))) (sym (ap f on) ∙ fell)
range_falls f i (suc n) (suc k) less stood fell = let on : i + 0 ≡ i = omega arith in let next : i + suc k ≡ i + 1 + k = omega arith in
    ap (λ b. first_fall (b ∷ map f (range_with_len (i + 1) n))) (sym (ap f on) ∙ stood 0 (omega arith))
    ∙ ap (option_map suc) (range_falls f (i + 1) n k (omega (arith, less))
    (λ j lt. let there : i + 1 + j ≡ i + suc j = omega arith in ap f there ∙ stood (suc j) (omega (arith, lt))) (sym (ap f next) ∙ fell))
