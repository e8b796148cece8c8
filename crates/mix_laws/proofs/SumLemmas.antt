-- A sum over places that stand once each is the sum over all routes of those that stand there.
use Rattle.std.proofs.Common.{◌≡◌, ◌≢◌, ℕ, suc, ◌+◌, ◌<◌, ◌≤◌, Bool, true, false, cond, ◌||◌, refl, sym, ap, subst, ◌∙◌, arith, List, [], ◌∷◌, length, All, AllPairs, Some}
use Rattle.std.specs.Prelude.{ℤ, pos, ◌+ℤ◌, ◌==◌, slice_get}
use Rattle.std.proofs.Math.IntN.{+ℤ_comm, +ℤ_assoc, +ℤ_idl}
use Rattle.std.proofs.lemmas.Bool.Decides.{nat_tests}
use Rattle.std.proofs.lemmas.List.Elements.{All-head, All-tail}
use Rattle.sound_model.specs.Routes.{Route, fed, fed_by}

pub by_test : {P : Type 0} (b : Bool) → (b ≡ true → P) → (b ≡ false → P) → P
by_test true if_true if_false = if_true refl
by_test false if_true if_false = if_false refl

-- the sum at these places
abbrev pub sum_at : (ℕ → ℤ) → List ℕ → ℤ
sum_at g [] = pos 0
sum_at g (f ∷ fs) = g f +ℤ sum_at g fs

-- the sum over routes that stand from a place on, of those that are chosen
abbrev pub chosen : (ℕ → Bool) → (ℕ → ℤ) → ℕ → List Route → ℤ
chosen p g f [] = pos 0
chosen p g f (q ∷ qs) = cond (p f) (g f) (pos 0) +ℤ chosen p g (suc f) qs

abbrev pub is_in : List ℕ → ℕ → Bool
is_in [] j = false
is_in (k ∷ ks) j = j == k || is_in ks j

swap : (a b d : ℤ) → a +ℤ (b +ℤ d) ≡ b +ℤ (a +ℤ d)
swap a b d = sym (+ℤ_assoc a b d) ∙ ap (λ s. s +ℤ d) (+ℤ_comm a b) ∙ +ℤ_assoc b a d

greater_differs : (j k : ℕ) → k < j → (j == k) ≡ false
greater_differs j k h = grind (arith, nat_tests)

pub unequal : (j k : ℕ) → j ≢ k → (j == k) ≡ false
unequal j k h = grind (arith, nat_tests)

pub equal : (j k : ℕ) → (j == k) ≡ true → j ≡ k
equal j k e = grind (arith, nat_tests)

same_chosen : (p q : ℕ → Bool) (g : ℕ → ℤ) (f : ℕ) (qs : List Route) → ((j : ℕ) → f ≤ j → p j ≡ q j) → chosen p g f qs ≡ chosen q g f qs
same_chosen p q g f [] h = refl
same_chosen p q g f (r ∷ rs) h = rw (h f (omega arith), same_chosen p q g (suc f) rs (λ j l. h j (omega arith))) refl

none_chosen : (g : ℕ → ℤ) (f : ℕ) (qs : List Route) → chosen (λ j. false) g f qs ≡ pos 0
none_chosen g f [] = refl
none_chosen g f (q ∷ qs) = +ℤ_idl _ ∙ none_chosen g (suc f) qs

-- one more is chosen
one_more : (p : ℕ → Bool) (g : ℕ → ℤ) (k f : ℕ) (qs : List Route) → f ≤ k → k < f + length qs → p k ≡ false →
    chosen (λ j. j == k || p j) g f qs ≡ g k +ℤ chosen p g f qs
one_more p g k f [] low high new = absurd (omega arith)
one_more p g k f (q ∷ qs) low high new = by_test (f == k) here (λ e. there e (one_more p g k (suc f) qs (later e) (omega (arith, high)) new))
  where
    more : ℕ → Bool
    more = λ j. j == k || p j

    here : (f == k) ≡ true → chosen more g f (q ∷ qs) ≡ g k +ℤ chosen p g f (q ∷ qs)
    here e = let at : f ≡ k = equal f k e in
        let rest : chosen more g (suc f) qs ≡ chosen p g (suc f) qs = same_chosen more p g (suc f) qs (λ j l. ap (λ b. b || p j) (greater_differs j k (omega (arith, at)))) in
        let K : ℕ → Type 0 = λ j. p j ≡ false in let gone : p f ≡ false = subst K (sym at) new in
        rw (e, rest, gone) (ap (λ j. g j +ℤ chosen p g (suc f) qs) at ∙ ap (λ s. g k +ℤ s) (sym (+ℤ_idl (chosen p g (suc f) qs))))

    later : (f == k) ≡ false → suc f ≤ k
    later e = grind (arith, nat_tests)

    there : (f == k) ≡ false → chosen more g (suc f) qs ≡ g k +ℤ chosen p g (suc f) qs → chosen more g f (q ∷ qs) ≡ g k +ℤ chosen p g f (q ∷ qs)
    there e rest = rw (e, rest) (swap (cond (p f) (g f) (pos 0)) (g k) (chosen p g (suc f) qs))

pair_head : (R : ℕ → ℕ → Type 0) (q : ℕ) (qs : List ℕ) → AllPairs R (q ∷ qs) → All (R q) qs
pair_head R q qs h k d l = h 0 (suc k) d (omega arith) (omega arith)

pair_tail : (R : ℕ → ℕ → Type 0) (q : ℕ) (qs : List ℕ) → AllPairs R (q ∷ qs) → AllPairs R qs
pair_tail R q qs h i j d l m = h (suc i) (suc j) d (omega arith) (omega arith)

not_in : (k : ℕ) (ks : List ℕ) → All (λ j. k ≢ j) ks → is_in ks k ≡ false
not_in k [] h = refl
not_in k (j ∷ ks) h = rw (unequal k j (All-head (λ i. k ≢ i) j ks h), not_in k ks (All-tail (λ i. k ≢ i) j ks h)) refl

pub sum_is_chosen : (g : ℕ → ℤ) (fs : List ℕ) (qs : List Route) → AllPairs (λ i j. i ≢ j) fs → All (λ r. r < length qs) fs →
    sum_at g fs ≡ chosen (is_in fs) g 0 qs
sum_is_chosen g [] qs once within = sym (same_chosen (is_in []) (λ j. false) g 0 qs (λ j l. refl) ∙ none_chosen g 0 qs)
sum_is_chosen g (k ∷ ks) qs once within =
    ap (λ s. g k +ℤ s) (sum_is_chosen g ks qs (pair_tail (λ i j. i ≢ j) k ks once) (All-tail (λ r. r < length qs) k ks within))
    ∙ sym (one_more (is_in ks) g k 0 qs (omega arith) (omega (arith, All-head (λ r. r < length qs) k ks within)) (not_in k ks (pair_head (λ i j. i ≢ j) k ks once)))

-- where all are chosen, and each gives what its route gives, that is what all routes give
pub all_give : (solo : Bool) (x to channels c : ℕ) (inputs : ℕ → ℕ → ℤ) (p : ℕ → Bool) (g : ℕ → ℤ) (f : ℕ) (qs : List Route) →
    ((i j : ℕ) → j ≡ f + i → i < length qs → p j ≡ true) →
    ((i j : ℕ) (q : Route) → j ≡ f + i → slice_get qs i ≡ Some q → g j ≡ fed solo x to channels c q (inputs j)) →
    chosen p g f qs ≡ fed_by solo x to channels c inputs f qs
all_give solo x to channels c inputs p g f [] all gives = refl
all_give solo x to channels c inputs p g f (q ∷ qs) all gives =
    rw (
      all 0 f (omega arith) (omega arith),
      gives 0 f q (omega arith) refl,
      all_give solo x to channels c inputs p g (suc f) qs (λ i j e l. all (suc i) j (omega (arith, e)) (omega (arith, l))) (λ i j r e there. gives (suc i) j r (omega (arith, e)) there),
    ) refl
