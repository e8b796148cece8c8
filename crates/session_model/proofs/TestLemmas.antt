-- Tests that are facts, and how they join.
use Rattle.std.proofs.Common.{◌≡◌, ◌≢◌, ℕ, zero, suc, ◌+◌, ◌≤◌, ◌<◌, Bool, true, false, not, ◌&&◌, ◌||◌, refl, subst, arith, List, [], ◌∷◌, length, Option, Some, None, slice_get, All, nat_le, nat_lt, ◌==◌, IsSomeAnd, IfSome}
use Rattle.std.specs.Option.{option_map_or, is_none}
use Rattle.std.specs.List.{list_all}
use Rattle.std.specs.Str.{bytes_eq}
use Rattle.std.proofs.lemmas.Bool.Decides.{Decides-and, Decides-not, Decides-by_and, Decides-eqb, Decides-ltb, nat_tests}
use Rattle.std.proofs.lemmas.Slice.Eq.{bytes_eq-Decides}
use Rattle.std.proofs.lemmas.List.Kept.{AllPairs-cons}
use Rattle.session_model.specs.Lists.{EachAt, each_from, AreApart, are_apart}

-- the test passes exactly where the fact holds
pub record IsTest (b : Bool) (P : Type 0) : Type 0 where
  pub sound : b ≡ true → P
  pub complete : P → b ≡ true

-- ---- how they join

infixl 10 ◌also◌
pub ◌also◌ : {a b : Bool} {P Q : Type 0} → IsTest a P → IsTest b Q → IsTest (a && b) (P × Q)
◌also◌ {a} {b} x y = let d = Decides-and a b (x.sound, x.complete) (y.sound, y.complete) in record { sound = d.0; complete = d.1 }

pub other_words : {b : Bool} {P Q : Type 0} → IsTest b P → (P → Q) → (Q → P) → IsTest b Q
other_words t there back = record { sound = λ e. there (t.sound e); complete = λ q. t.complete (back q) }

pub negated : {b : Bool} {P : Type 0} → IsTest b P → IsTest (not b) (¬ P)
negated {b} t = let d = Decides-not b (t.sound, t.complete) in record { sound = d.0; complete = d.1 }

pub implied : (a b : Bool) → IsTest (not a || b) (a ≡ true → b ≡ true)
implied true b = record { sound = λ e h. e; complete = λ f. f refl }
implied false b = record { sound = λ e h. cc; complete = λ f. refl }

-- ---- of numbers and bytes

pub le_tested : (a b : ℕ) → IsTest (nat_le a b) (a ≤ b)
le_tested a b = record { sound = λ e. grind (arith, nat_tests); complete = λ h. grind (arith, nat_tests) }

pub lt_tested : (a b : ℕ) → IsTest (nat_lt a b) (a < b)
lt_tested a b = record { sound = (Decides-ltb a b).0; complete = (Decides-ltb a b).1 }

pub eq_tested : (a b : ℕ) → IsTest (a == b) (a ≡ b)
eq_tested a b = record { sound = (Decides-eqb a b).0; complete = (Decides-eqb a b).1 }

pub bytes_tested : (xs ys : List ℕ) → IsTest (bytes_eq xs ys) (xs ≡ ys)
bytes_tested xs ys = record { sound = (bytes_eq-Decides xs ys).0; complete = (bytes_eq-Decides xs ys).1 }

-- ---- of options

pub is_none_tested : {X : Type 0} (o : Option X) → IsTest (is_none o) (o ≡ None)
is_none_tested None = record { sound = λ e. refl; complete = λ e. refl }
is_none_tested (Some x) = record { sound = λ e. cc; complete = λ e. cc }

pub some_tested : {X : Type 0} {p : X → Bool} {P : X → Type 0} → ((x : X) → IsTest (p x) (P x)) → (o : Option X) → IsTest (option_map_or p o false) (IsSomeAnd o P)
some_tested each None = record { sound = λ e. absurd (nothing e); complete = λ h. absurd h }
  where
    nothing : false ≡ true → ⊥
    nothing h = cc
some_tested each (Some x) = each x

pub if_some_tested : {X : Type 0} {p : X → Bool} {P : X → Type 0} → ((x : X) → IsTest (p x) (P x)) → (o : Option X) → IsTest (option_map_or p o true) (IfSome o P)
if_some_tested each None = record { sound = λ e. tt; complete = λ h. refl }
if_some_tested each (Some x) = each x

-- ---- of lists

pub none_tested : {X : Type 0} (xs : List X) → IsTest (length xs == 0) (xs ≡ [])
none_tested [] = record { sound = λ e. refl; complete = λ e. refl }
none_tested (x ∷ xs) = record { sound = λ e. grind (arith, nat_tests); complete = λ e. cc }

pub all_tested : {X : Type 0} {p : X → Bool} {P : X → Type 0} → ((x : X) → IsTest (p x) (P x)) → (xs : List X) → IsTest (list_all p xs) (All P xs)
all_tested {p = p} {P = P} each xs =
    let d = Decides-by_and p P (list_all p) (λ x. ((each x).sound, (each x).complete)) refl (λ x ys. refl) xs in
    record { sound = d.0; complete = d.1 }

each_from_tested : {X : Type 0} {p : ℕ → X → Bool} {P : ℕ → X → Type 0} → ((i : ℕ) (x : X) → IsTest (p i x) (P i x)) → (i : ℕ) (xs : List X) → IsTest (each_from p i xs) ((k : ℕ) (x : X) → slice_get xs k ≡ Some x → P (i + k) x)
each_from_tested each i [] = record { sound = λ e k x h. cc; complete = λ h. refl }
each_from_tested {X} {p} {P} each i (y ∷ ys) = other_words (each i y also each_from_tested each (suc i) ys) there back
  where
    there : P i y × ((k : ℕ) (x : X) → slice_get ys k ≡ Some x → P (suc i + k) x) → (k : ℕ) (x : X) → slice_get (y ∷ ys) k ≡ Some x → P (i + k) x
    there (first, others) zero x h = let same : y ≡ x = cc in let Q : X → Type 0 = P (i + 0) in let R : ℕ → Type 0 = λ n. P n y in
        subst Q same (subst R (omega arith) first)
    there (first, others) (suc k) x h = let R : ℕ → Type 0 = λ n. P n x in subst R (omega arith) (others k x h)

    back : ((k : ℕ) (x : X) → slice_get (y ∷ ys) k ≡ Some x → P (i + k) x) → P i y × ((k : ℕ) (x : X) → slice_get ys k ≡ Some x → P (suc i + k) x)
    back h = let R : ℕ → Type 0 = λ n. P n y in
        (subst R (omega arith) (h 0 y refl), λ k x e. let S : ℕ → Type 0 = λ n. P n x in subst S (omega arith) (h (suc k) x e))

pub each_tested : {X : Type 0} {p : ℕ → X → Bool} {P : ℕ → X → Type 0} → ((i : ℕ) (x : X) → IsTest (p i x) (P i x)) → (xs : List X) → IsTest (each_from p 0 xs) (EachAt P xs)
each_tested {X} {p} {P} each xs = other_words (each_from_tested each 0 xs)
    (λ h k x e. let R : ℕ → Type 0 = λ n. P n x in subst R (omega arith) (h k x e))
    (λ h k x e. let R : ℕ → Type 0 = λ n. P n x in subst R (omega arith) (h k x e))

pub apart_tested : {X : Type 0} {same : X → X → Bool} → ((x y : X) → IsTest (same x y) (x ≡ y)) → (xs : List X) → IsTest (are_apart same xs) (AreApart xs)
apart_tested each [] = record { sound = λ e i j d h l. absurd (omega arith); complete = λ h. refl }
apart_tested {X} each (x ∷ xs) = other_words (all_tested (λ y. negated (each x y)) xs also apart_tested each xs)
    (λ h. AllPairs-cons (λ y z. y ≢ z) x xs h.0 h.1)
    (λ h. (λ k d l. h 0 (suc k) d (omega arith) (omega arith), λ i j d l m. h (suc i) (suc j) d (omega arith) (omega arith)))
