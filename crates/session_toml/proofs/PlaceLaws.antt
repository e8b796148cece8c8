-- The place of the first item that passes.
use Rattle.std.proofs.Common.{◌≡◌, suc, ◌+◌, ◌≤◌, Bool, true, false, refl, arith, List, [], ◌∷◌, length, position, nat_lt}
use Rattle.std.specs.List.{position_or_len}
use Rattle.std.specs.Option.{unwrap_or}
use Rattle.std.proofs.lemmas.Bool.Decides.{nat_tests}
use Rattle.sound_laws.proofs.Cases.{by_test}

pub place-here : {X : Type 0} (p : X → Bool) (x : X) (xs : List X) → p x ≡ true → position_or_len p (x ∷ xs) ≡ 0
place-here p x xs e = rw e refl

pub place-later : {X : Type 0} (p : X → Bool) (x : X) (xs : List X) → p x ≡ false → position_or_len p (x ∷ xs) ≡ suc (position_or_len p xs)
place-later p x xs e = let next : 1 + position_or_len p xs ≡ suc (position_or_len p xs) = omega arith in rw e next

pub place-within : {X : Type 0} (p : X → Bool) (xs : List X) → position_or_len p xs ≤ length xs
place-within p [] = omega arith
place-within p (x ∷ xs) = by_test (p x)
    (λ e. omega (arith, place-here p x xs e))
    (λ e. omega (arith, place-later p x xs e, place-within p xs))

pub place-found : {X : Type 0} (p : X → Bool) (xs : List X) → unwrap_or (position p xs) (length xs) ≡ position_or_len p xs
place-found p xs = by_test (nat_lt (position_or_len p xs) (length xs))
    (λ t. rw t refl)
    (λ t. rw t (let past : length xs ≤ position_or_len p xs = grind (arith, nat_tests) in omega (arith, past, place-within p xs)))
