-- Looks that are waited for.
use Rattle.std.proofs.Common.{◌≡◌, ℕ, zero, suc, ◌-◌, ◌≤◌, List, [], ◌∷◌, ◌++◌, length, refl, sym, ap, ◌∙◌, subst, arith, length-append}
use Rattle.std.specs.Prelude.{Bool, true, false, ◌==◌, if◌then◌else◌}
use Rattle.std.proofs.lemmas.Bool.{false≢true, eq-eqb}
use Rattle.std.proofs.lemmas.List.{append_assoc}
use Rattle.engine_laws.proofs.TruthfulLemmas.{looked_stays, misses_stay}
use Rattle.engine_model.specs.Truth.{misses, looked}
use Rattle.engine_model.specs.Waited.{are_waited_from}
use Rattle.cycle_grants.specs.Patience.{FurtherLooks, LookedStands, OneMoreIsLookedFor}

further_by : (p n t : ℕ) (ns tails more : List ℕ) (b : Bool) → (t == n) ≡ b → are_waited_from p zero (n ∷ ns) (t ∷ tails) ≡ true →
    (are_waited_from p (p - 1) ns tails ≡ true → are_waited_from p (p - 1) ns (tails ++ more) ≡ true) →
    (are_waited_from p zero (n ∷ ns) tails ≡ true → are_waited_from p zero (n ∷ ns) (tails ++ more) ≡ true) → are_waited_from p zero (n ∷ ns) (t ∷ tails ++ more) ≡ true
further_by p n t ns tails more true is was found past = ap (λ b. if b then are_waited_from p (p - 1) ns (tails ++ more) else are_waited_from p zero (n ∷ ns) (tails ++ more)) is
    ∙ found (sym (ap (λ b. if b then are_waited_from p (p - 1) ns tails else are_waited_from p zero (n ∷ ns) tails) is) ∙ was)
further_by p n t ns tails more false is was found past = ap (λ b. if b then are_waited_from p (p - 1) ns (tails ++ more) else are_waited_from p zero (n ∷ ns) (tails ++ more)) is
    ∙ past (sym (ap (λ b. if b then are_waited_from p (p - 1) ns tails else are_waited_from p zero (n ∷ ns) tails) is) ∙ was)

further : (p left : ℕ) (ns tails more : List ℕ) → are_waited_from p left ns tails ≡ true → are_waited_from p left ns (tails ++ more) ≡ true
further p left [] tails more was = refl
further p left (n ∷ ns) [] more was = absurd (false≢true was)
further p (suc left) (n ∷ ns) (t ∷ tails) more was = further p left (n ∷ ns) tails more was
further p zero (n ∷ ns) (t ∷ tails) more was = further_by p n t ns tails more (t == n) refl was (further p (p - 1) ns tails more) (further p zero (n ∷ ns) tails more)

pub further_looks : FurtherLooks
further_looks patience looked tails more was = further patience (patience - 1) looked tails more was

-- the number that is looked for is noted last
last_by : (p n x : ℕ) (xs : List ℕ) (b : Bool) → (x == n) ≡ b → are_waited_from p zero (n ∷ []) (xs ++ n ∷ []) ≡ true → are_waited_from p zero (n ∷ []) (x ∷ xs ++ n ∷ []) ≡ true
last_by p n x xs true is rest = ap (λ b. if b then are_waited_from p (p - 1) [] (xs ++ n ∷ []) else are_waited_from p zero (n ∷ []) (xs ++ n ∷ [])) is
last_by p n x xs false is rest = ap (λ b. if b then are_waited_from p (p - 1) [] (xs ++ n ∷ []) else are_waited_from p zero (n ∷ []) (xs ++ n ∷ [])) is ∙ rest

last_found : (p left n : ℕ) (xs : List ℕ) → left ≤ length xs → are_waited_from p left (n ∷ []) (xs ++ n ∷ []) ≡ true
last_found p zero n [] few = ap (λ b. if b then are_waited_from p (p - 1) [] [] else are_waited_from p zero (n ∷ []) []) (eq-eqb n n refl)
last_found p (suc left) n [] few = absurd (omega arith)
last_found p zero n (x ∷ xs) few = last_by p n x xs (x == n) refl (last_found p zero n xs (omega arith))
last_found p (suc left) n (x ∷ xs) few = last_found p left n xs (omega arith)

one_by : (p n m t : ℕ) (ns tails fresh : List ℕ) (b : Bool) → (t == m) ≡ b → are_waited_from p zero (m ∷ ns) (t ∷ tails) ≡ true →
    (are_waited_from p (p - 1) ns tails ≡ true → are_waited_from p (p - 1) (ns ++ n ∷ []) (tails ++ fresh) ≡ true) →
    (are_waited_from p zero (m ∷ ns) tails ≡ true → are_waited_from p zero (m ∷ ns ++ n ∷ []) (tails ++ fresh) ≡ true) →
    are_waited_from p zero (m ∷ ns ++ n ∷ []) (t ∷ tails ++ fresh) ≡ true
one_by p n m t ns tails fresh true is was found past = ap (λ b. if b then are_waited_from p (p - 1) (ns ++ n ∷ []) (tails ++ fresh) else are_waited_from p zero (m ∷ ns ++ n ∷ []) (tails ++ fresh)) is
    ∙ found (sym (ap (λ b. if b then are_waited_from p (p - 1) ns tails else are_waited_from p zero (m ∷ ns) tails) is) ∙ was)
one_by p n m t ns tails fresh false is was found past = ap (λ b. if b then are_waited_from p (p - 1) (ns ++ n ∷ []) (tails ++ fresh) else are_waited_from p zero (m ∷ ns ++ n ∷ []) (tails ++ fresh)) is
    ∙ past (sym (ap (λ b. if b then are_waited_from p (p - 1) ns tails else are_waited_from p zero (m ∷ ns) tails) is) ∙ was)

one_more : (p left n : ℕ) (ns tails before : List ℕ) → left ≤ p - 1 → p ≤ suc (length before) → are_waited_from p left ns tails ≡ true →
    are_waited_from p left (ns ++ n ∷ []) (tails ++ (before ++ n ∷ [])) ≡ true
one_more p left n [] tails before few some was = subst (λ l. are_waited_from p left (n ∷ []) l ≡ true) (append_assoc tails before (n ∷ []))
    (last_found p left n (tails ++ before) (omega (arith, length-append tails before, few, some)))
one_more p left n (m ∷ ns) [] before few some was = absurd (false≢true was)
one_more p (suc left) n (m ∷ ns) (t ∷ tails) before few some was = one_more p left n (m ∷ ns) tails before (omega (arith, few)) some was
one_more p zero n (m ∷ ns) (t ∷ tails) before few some was = one_by p n m t ns tails (before ++ n ∷ []) (t == m) refl was
    (one_more p (p - 1) n ns tails before (omega arith) some) (one_more p zero n (m ∷ ns) tails before (omega arith) some)

pub one_more_is_looked_for : OneMoreIsLookedFor
one_more_is_looked_for patience n looked tails before some was = one_more patience (patience - 1) n looked tails before (omega arith) some was

-- what was looked for, with more edits and more received
pub looked_stands : LookedStands
looked_stands edits extra depth t received more journal within tails = ap (looked depth (received ++ more)) (misses_stay edits extra t journal within)
    ∙ looked_stays depth received more (misses edits t journal) tails
