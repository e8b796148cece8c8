-- The first item that stood before, item by item.
use Rattle.std.proofs.Common.{◌≡◌, ℕ, ◌+◌, ◌<◌, Bool, true, false, refl, List, length, take, drop, get_or, Some}
use Rattle.std.specs.List.{list_any}
use Rattle.std.proofs.lemmas.List.{take_more, drop_more}
use Rattle.session_toml.specs.Rules.{twice_after}

pub twice_found : {A : Type 0} (same : A → A → Bool) (xs : List A) (i : ℕ) (x : A) → i < length xs → x ≡ get_or xs i x →
    list_any (λ y. same y x) (take i xs) ≡ true → twice_after same (take i xs) (drop i xs) ≡ Some x
twice_found same xs i x h is found = rw (drop_more xs i x h, ← is, found) refl

pub twice_passed : {A : Type 0} (same : A → A → Bool) (xs : List A) (i : ℕ) (x : A) → i < length xs → x ≡ get_or xs i x →
    list_any (λ y. same y x) (take i xs) ≡ false → twice_after same (take i xs) (drop i xs) ≡ twice_after same (take (i + 1) xs) (drop (i + 1) xs)
twice_passed same xs i x h is new = rw (drop_more xs i x h, take_more xs i x h, ← is, new) refl
