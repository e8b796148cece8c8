-- Names that are looked up: what stands at the place of a name.
use Rattle.std.proofs.Common.{◌≡◌, ℕ, zero, suc, ◌+◌, ◌<◌, ◌≤◌, ◌⊎◌, inl, inr, Bool, true, false, refl, ap, ◌∙◌, subst, arith, List, [], ◌∷◌, ◌++◌, length, map, find, slice_get, All, Option, Some, None, bytes_eq, ◌||◌}
use Rattle.std.specs.Prelude.{if◌then◌else◌, is_some}
use Rattle.std.specs.Option.{option_copied}
use Rattle.std.specs.Borrow.{Bor}
use Rattle.std.specs.List.{list_any}
use Rattle.std.proofs.lemmas.List.Elements.{All-head, All-tail}
use Rattle.sound_laws.proofs.Cases.{by_test, or_parts}
use Rattle.session_toml.specs.Built.{place_of, numbered}
use Rattle.session_toml.proofs.PlaceLaws.{place-here, place-later}

-- ---- the first item that a test holds of

picked : {A : Type 0} (b : Bool) (x : A) (o : Option A) → is_some (if b then Some x else o) ≡ (b || is_some o)
picked true x o = refl
picked false x o = refl

found_any : {A : Type 0} (test : A → Bool) (xs : List A) → is_some (find test xs) ≡ list_any test xs
found_any test [] = refl
found_any test (x ∷ xs) = picked (test x) x (find test xs) ∙ ap (λ b. test x || b) (found_any test xs)

copied : {A : Type 0} (r : Option (Bor A)) → is_some r ≡ is_some (option_copied r)
copied (Some x) = refl
copied None = refl

pub any_found : {A : Type 0} (test : A → Bool) (xs : List A) (r : Option (Bor A)) → option_copied r ≡ find test xs → is_some r ≡ list_any test xs
any_found test xs r is = copied r ∙ ap is_some is ∙ found_any test xs

-- ---- items at places

pub got : {A : Type 0} (P : A → Type 0) (xs : List A) (i : ℕ) (x : A) → All P xs → slice_get xs i ≡ Some x → P x
got P [] i x all e = cc
got {A} P (y ∷ ys) zero x all e = let same : y ≡ x = cc in subst P same (All-head P y ys all)
got P (y ∷ ys) (suc i) x all e = got P ys i x (All-tail P y ys all) e

pub got-within : {A : Type 0} (xs : List A) (i : ℕ) (x : A) → slice_get xs i ≡ Some x → i < length xs
got-within [] i x e = cc
got-within (y ∷ ys) zero x e = omega arith
got-within (y ∷ ys) (suc i) x e = omega (arith, got-within ys i x e)

pub got-front : {A : Type 0} (xs ys : List A) (i : ℕ) (x : A) → slice_get xs i ≡ Some x → slice_get (xs ++ ys) i ≡ Some x
got-front [] ys i x e = cc
got-front (y ∷ xs) ys zero x e = e
got-front (y ∷ xs) ys (suc i) x e = got-front xs ys i x e

pub got-last : {A : Type 0} (xs : List A) (y : A) → slice_get (xs ++ y ∷ []) (length xs) ≡ Some y
got-last [] y = refl
got-last (x ∷ xs) y = got-last xs y

pub got-either : {A : Type 0} (xs : List A) (y : A) (i : ℕ) (z : A) → slice_get (xs ++ y ∷ []) i ≡ Some z → (slice_get xs i ≡ Some z) ⊎ ((i ≡ length xs) × (y ≡ z))
got-either [] y zero z e = inr (refl, cc)
got-either [] y (suc i) z e = cc
got-either (x ∷ xs) y zero z e = inl e
got-either (x ∷ xs) y (suc i) z e = elim (got-either xs y i z e) [
  | inl there ↦ inl there
  | inr (last, is) ↦ inr (ap suc last, is)
]

pub got-map : {A B : Type 0} (f : A → B) (xs : List A) (i : ℕ) (x : A) → slice_get xs i ≡ Some x → slice_get (map f xs) i ≡ Some (f x)
got-map f [] i x e = cc
got-map f (y ∷ ys) zero x e = let same : y ≡ x = cc in rw same refl
got-map f (y ∷ ys) (suc i) x e = got-map f ys i x e

-- what stands in a mapped list comes from an item
pub got-from : {A B : Type 0} (f : A → B) (xs : List A) (i : ℕ) (y : B) → slice_get (map f xs) i ≡ Some y → (x : A) × (slice_get xs i ≡ Some x) × (f x ≡ y)
got-from f [] i y e = cc
got-from f (x ∷ xs) zero y e = (x, refl, cc)
got-from f (x ∷ xs) (suc i) y e = got-from f xs i y e

pub got-numbered : {A B : Type 0} (f : ℕ → A → B) (n m : ℕ) (xs : List A) (i : ℕ) (x : A) → m ≡ n + i → slice_get xs i ≡ Some x → slice_get (numbered f n xs) i ≡ Some (f m x)
got-numbered f n m [] i x is e = cc
got-numbered f n m (y ∷ ys) zero x is e = let same : y ≡ x = cc in let place : m ≡ n = omega arith in rw (same, place) refl
got-numbered f n m (y ∷ ys) (suc i) x is e = got-numbered f (suc n) m ys i x (omega arith) e

pub got-from-numbered : {A B : Type 0} (f : ℕ → A → B) (n m : ℕ) (xs : List A) (i : ℕ) (y : B) → m ≡ n + i → slice_get (numbered f n xs) i ≡ Some y → (x : A) × (slice_get xs i ≡ Some x) × (f m x ≡ y)
got-from-numbered f n m [] i y is e = cc
got-from-numbered f n m (x ∷ xs) zero y is e = let place : m ≡ n = omega arith in (x, refl, rw place cc)
got-from-numbered f n m (x ∷ xs) (suc i) y is e = got-from-numbered f (suc n) m xs i y (omega arith) e

-- ---- names

abbrev pub named : {A : Type 0} → (A → List ℕ) → List ℕ → A → Bool
named key name x = bytes_eq (key x) name

-- an item has the name, and the first of them stands at its place
pub record IsThere {A : Type 0} (key : A → List ℕ) (xs : List A) (name : List ℕ) (x : A) : Type 0 where
  pub found : find (named key name) xs ≡ Some x
  pub at : slice_get xs (place_of (map key xs) name) ≡ Some x
  pub has : bytes_eq (key x) name ≡ true

-- no item has the name
pub record IsLost {A : Type 0} (key : A → List ℕ) (xs : List A) (name : List ℕ) : Type 0 where
  pub found : find (named key name) xs ≡ None
  pub place : place_of (map key xs) name ≡ length xs
  pub none : list_any (named key name) xs ≡ false

there-later : {A : Type 0} (key : A → List ℕ) (y : A) (ys : List A) (name : List ℕ) (x : A) → bytes_eq (key y) name ≡ false → IsThere key ys name x → IsThere key (y ∷ ys) name x
there-later key y ys name x e t = record {
  found = rw e t.found;
  at = ap (slice_get (y ∷ ys)) (place-later (λ n. bytes_eq n name) (key y) (map key ys) e) ∙ t.at;
  has = t.has;
}

lost-later : {A : Type 0} (key : A → List ℕ) (y : A) (ys : List A) (name : List ℕ) → bytes_eq (key y) name ≡ false → IsLost key ys name → IsLost key (y ∷ ys) name
lost-later key y ys name e t = record {
  found = rw e t.found;
  place = place-later (λ n. bytes_eq n name) (key y) (map key ys) e ∙ ap suc t.place;
  none = rw (e, t.none) refl;
}

there-first : {A : Type 0} (key : A → List ℕ) (y : A) (ys : List A) (name : List ℕ) → bytes_eq (key y) name ≡ true → IsThere key (y ∷ ys) name y
there-first key y ys name e = record {
  found = rw e refl;
  at = ap (slice_get (y ∷ ys)) (place-here (λ n. bytes_eq n name) (key y) (map key ys) e);
  has = e;
}

pub looked-up : {A : Type 0} (key : A → List ℕ) (xs : List A) (name : List ℕ) → ((x : A) × IsThere key xs name x) ⊎ IsLost key xs name
looked-up key [] name = inr (record { found = refl; place = refl; none = refl })
looked-up key (y ∷ ys) name = by_test (bytes_eq (key y) name)
    (λ e. inl (y, there-first key y ys name e))
    (λ e. elim (looked-up key ys name) [
      | inl (x, there) ↦ inl (x, there-later key y ys name x e there)
      | inr lost ↦ inr (lost-later key y ys name e lost)
    ])

-- no item of the front has the name, so it stands behind them
pub behind : {A : Type 0} (key : A → List ℕ) (xs : List A) (rest : List (List ℕ)) (name : List ℕ) → list_any (named key name) xs ≡ false → length xs ≤ place_of (map key xs ++ rest) name
behind key [] rest name e = omega arith
behind key (y ∷ ys) rest name e =
    let (here, more) = or_parts (bytes_eq (key y) name) (list_any (named key name) ys) e in
    omega (arith, place-later (λ n. bytes_eq n name) (key y) (map key ys ++ rest) here, behind key ys rest name more)
