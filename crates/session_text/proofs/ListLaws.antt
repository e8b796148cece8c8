-- Items by their places, and searches that find nothing.
use Rattle.std.proofs.Common.{◌≡◌, ℕ, zero, suc, ◌+◌, ◌-◌, ◌<◌, Bool, false, refl, ap, sym, ◌∙◌, subst, arith, List, [], ◌∷◌, ◌++◌, length, map, take, drop, find, get_or, slice_get, All, Option, Some, None, is_some}
use Rattle.std.specs.Prelude.{AllPairs, slice_range}
use Rattle.std.specs.List.{list_any, zip}
use Rattle.std.proofs.lemmas.List.{take-append-drop, take-take, drop-take, take_more, take_all}
use Rattle.std.proofs.lemmas.List.Elements.{All-nil, All-cons, All-head, All-tail}
use Rattle.std.proofs.lemmas.List.Folds.{list_any-append}
use Rattle.session_toml.specs.Rules.{twice_after, first_twice, first_of}
use Rattle.session_toml.specs.Built.{numbered}

-- ---- items at places

pub there : {A : Type 0} (xs : List A) (i : ℕ) → i < length xs → (x : A) × (slice_get xs i ≡ Some x)
there [] i h = absurd (omega arith)
there (x ∷ xs) zero h = (x, refl)
there (x ∷ xs) (suc i) h = there xs i (omega arith)

pub got-or : {A : Type 0} (xs : List A) (i : ℕ) (x d : A) → slice_get xs i ≡ Some x → get_or xs i d ≡ x
got-or [] i x d e = cc
got-or (y ∷ ys) zero x d e = cc
got-or (y ∷ ys) (suc i) x d e = got-or ys i x d e

pub got-behind : {A : Type 0} (xs ys : List A) (i m : ℕ) (y : A) → m ≡ length xs + i → slice_get ys i ≡ Some y → slice_get (xs ++ ys) m ≡ Some y
got-behind [] ys i m y is e = let same : m ≡ i = omega arith in rw same e
got-behind (x ∷ xs) ys i zero y is e = absurd (omega arith)
got-behind (x ∷ xs) ys i (suc m) y is e = got-behind xs ys i m y (omega arith) e

-- what holds at each place holds of all
pub all-at : {A : Type 0} (P : A → Type 0) (xs : List A) → ((i : ℕ) (x : A) → slice_get xs i ≡ Some x → P x) → All P xs
all-at P [] h = All-nil P
all-at P (x ∷ xs) h = All-cons P x xs (h 0 x refl) (all-at P xs (λ i y e. h (suc i) y e))

pub zip-got : {A B : Type 0} (xs : List A) (ys : List B) (i : ℕ) (p : A × B) → slice_get (zip xs ys) i ≡ Some p → (slice_get xs i ≡ Some p.0) × (slice_get ys i ≡ Some p.1)
zip-got [] ys i p e = cc
zip-got (x ∷ xs) [] i p e = cc
zip-got {A} {B} (x ∷ xs) (y ∷ ys) zero p e = let same : (x, y) ≡ p = cc in (ap (λ (q : A × B). Some q.0) same, ap (λ (q : A × B). Some q.1) same)
zip-got (x ∷ xs) (y ∷ ys) (suc i) p e = zip-got xs ys i p e

pub zip-first : {A B : Type 0} (xs : List A) (ys : List B) → length xs ≡ length ys → map (λ p. p.0) (zip xs ys) ≡ xs
zip-first [] ys long = refl
zip-first (x ∷ xs) [] long = absurd (omega arith)
zip-first (x ∷ xs) (y ∷ ys) long = ap (λ zs. x ∷ zs) (zip-first xs ys (omega arith))

pub zip-second : {A B : Type 0} (xs : List A) (ys : List B) → length xs ≡ length ys → map (λ p. p.1) (zip xs ys) ≡ ys
zip-second [] [] long = refl
zip-second [] (y ∷ ys) long = absurd (omega arith)
zip-second (x ∷ xs) [] long = absurd (omega arith)
zip-second (x ∷ xs) (y ∷ ys) long = ap (λ zs. y ∷ zs) (zip-second xs ys (omega arith))

pub map-map : {A B C : Type 0} (f : A → B) (g : B → C) (xs : List A) → map g (map f xs) ≡ map (λ x. g (f x)) xs
map-map f g [] = refl
map-map f g (x ∷ xs) = ap (λ ys. g (f x) ∷ ys) (map-map f g xs)

pub map-same : {A B : Type 0} (f g : A → B) (xs : List A) → All (λ x. f x ≡ g x) xs → map f xs ≡ map g xs
map-same f g [] all = refl
map-same f g (x ∷ xs) all = rw (All-head (λ y. f y ≡ g y) x xs all, map-same f g xs (All-tail (λ y. f y ≡ g y) x xs all)) refl

pub map-stays : {A : Type 0} (f : A → A) (xs : List A) → All (λ x. f x ≡ x) xs → map f xs ≡ xs
map-stays f [] all = refl
map-stays f (x ∷ xs) all = rw (All-head (λ y. f y ≡ y) x xs all, map-stays f xs (All-tail (λ y. f y ≡ y) x xs all)) refl

-- items that give, place by place, what others give
pub numbered-same : {A B C : Type 0} (f : ℕ → B → C) (g : A → B) (h : A → C) (n : ℕ) (xs : List A) → ((i m : ℕ) (x : A) → m ≡ n + i → slice_get xs i ≡ Some x → f m (g x) ≡ h x) →
    numbered f n (map g xs) ≡ map h xs
numbered-same f g h n [] same = refl
numbered-same f g h n (x ∷ xs) same = rw (same 0 n x (omega arith) refl, numbered-same f g h (suc n) xs (λ i m y e. same (suc i) m y (omega arith))) refl

-- a list is its first items, those up to the last, and the last
pub parts : {A : Type 0} (xs : List A) (n : ℕ) (x : A) → n < length xs → slice_get xs (length xs - 1) ≡ Some x → xs ≡ (take n xs ++ slice_range xs n (length xs - 1)) ++ x ∷ []
parts {A} xs n x h e =
    let m : ℕ = length xs - 1 in
    let all : take (m + 1) xs ≡ xs = take_all (m + 1) xs (omega arith) in
    let last : take (m + 1) xs ≡ take m xs ++ get_or xs m x ∷ [] = take_more xs m x (omega arith) in
    let count : n + (m - n) ≡ m = omega arith in
    let front : take n (take m xs) ≡ take n xs = take-take n m xs (omega arith) in
    let back : drop n (take m xs) ≡ take (m - n) (drop n xs) = subst (λ (k : ℕ). drop n (take k xs) ≡ take (m - n) (drop n xs)) count (drop-take n (m - n) xs) in
    sym all ∙ last ∙ ap (λ (d : A). take m xs ++ d ∷ []) (got-or xs m x x e)
    ∙ ap (λ (ys : List A). ys ++ x ∷ []) (sym (take-append-drop n (take m xs)) ∙ ap (λ (ys : List A). ys ++ drop n (take m xs)) front ∙ ap (λ (ys : List A). take n xs ++ ys) back)

-- ---- nothing is found

pub find-nothing : {A : Type 0} (p : A → Bool) (xs : List A) → All (λ x. p x ≡ false) xs → find p xs ≡ None
find-nothing p [] all = refl
find-nothing p (x ∷ xs) all = rw (All-head (λ y. p y ≡ false) x xs all) (find-nothing p xs (All-tail (λ y. p y ≡ false) x xs all))

pub nothing-given : {A B : Type 0} (gives : A → Option B) (xs : List A) → All (λ x. gives x ≡ None) xs → first_of gives xs ≡ None
nothing-given gives xs all = rw (find-nothing (λ x. is_some (gives x)) xs (λ i d h. ap is_some (all i d h))) refl

twice-nothing : {A : Type 0} (same : A → A → Bool) (before xs : List A) → All (λ z. list_any (λ y. same y z) before ≡ false) xs → AllPairs (λ x z. same x z ≡ false) xs →
    twice_after same before xs ≡ None
twice-nothing same before [] new apart = refl
twice-nothing {A} same before (x ∷ xs) new apart =
    rw (All-head (λ z. list_any (λ y. same y z) before ≡ false) x xs new)
    (twice-nothing same (before ++ x ∷ []) xs
    (λ i d h. later (get_or xs i d) (All-tail (λ z. list_any (λ y. same y z) before ≡ false) x xs new i d h) (apart 0 (suc i) d (omega arith) (omega arith)))
    (λ i j d h l. apart (suc i) (suc j) d (omega arith) (omega arith)))
  where
    later : (z : A) → list_any (λ y. same y z) before ≡ false → same x z ≡ false → list_any (λ y. same y z) (before ++ x ∷ []) ≡ false
    later z e f = list_any-append (λ y. same y z) before (x ∷ []) ∙ rw (e, f) refl

pub none-twice : {A : Type 0} (same : A → A → Bool) (xs : List A) → AllPairs (λ x z. same x z ≡ false) xs → first_twice same xs ≡ None
none-twice same xs apart = twice-nothing same [] xs (λ i d h. refl) apart
