-- The first item that a rule finds, item by item.
use Rattle.std.proofs.Common.{◌≡◌, ℕ, ◌<◌, Bool, true, refl, List, length, drop, find, get_or, Option, Some}
use Rattle.std.proofs.lemmas.List.{drop_more}
use Rattle.session_toml.specs.Rules.{first_of}

pub given_first : {A B : Type 0} (gives : A → Option B) (xs : List A) (i : ℕ) (x : A) (b : B) → i < length xs → x ≡ get_or xs i x →
    gives x ≡ Some b → first_of gives (drop i xs) ≡ Some b
given_first gives xs i x b h is given = rw (drop_more xs i x h, ← is, given) given

pub found_first : {A : Type 0} (p : A → Bool) (xs : List A) (i : ℕ) (x : A) → i < length xs → x ≡ get_or xs i x →
    p x ≡ true → find p (drop i xs) ≡ Some x
found_first p xs i x h is passes = rw (drop_more xs i x h, ← is, passes) refl
