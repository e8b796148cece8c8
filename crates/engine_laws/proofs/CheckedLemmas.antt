-- What a chain of checks that was passed says of each of them.
use Rattle.std.proofs.Common.{◌≡◌, ℕ, ◌<◌, List, [], ◌∷◌, length, refl, subst}
use Rattle.std.specs.Prelude.{Bool, true, false, Option, Some, None, Ok, Err, slice_get, position}
use Rattle.std.proofs.lemmas.Option.{slice_get-get_or}
use Rattle.std.proofs.lemmas.List.Quantifiers.{position-Some}
use Rattle.engine_model.specs.Refusals.{Refusal, Checked, ◌>>=◌, refused_if, found}

-- what is found has a property, where nothing is refused
abbrev pub WhereOk : {A : Type 0} → (A → Type 0) → Checked A → Type 0
WhereOk P (Ok x) = P x
WhereOk P (Err why) = Unit {0}

-- one check after another
pub after_check : {A B : Type 0} (P : B → Type 0) (m : Checked A) (f : A → Checked B) → ((a : A) → m ≡ Ok a → WhereOk P (f a)) → WhereOk P (m >>= f)
after_check P (Ok a) f h = h a refl
after_check P (Err why) f h = tt

pub where_ok : {A : Type 0} (P : A → Type 0) (m : Checked A) (x : A) → WhereOk P m → m ≡ Ok x → P x
where_ok P (Ok y) x h e = let same : y ≡ x = cc in subst P same h
where_ok P (Err why) x h e = cc

pub was_found : {A : Type 0} (why : Refusal) (o : Option A) (x : A) → found why o ≡ Ok x → o ≡ Some x
was_found why (Some y) x e = cc
was_found why None x e = cc

pub was_kept : (b : Bool) (why : Refusal) (x : Unit {0}) → refused_if b why ≡ Ok x → b ≡ false
was_kept true why x e = cc
was_kept false why x e = refl

-- what stands at the place that is found
pub record StandsThere {X : Type 0} (p : X → Bool) (xs : List X) (place : ℕ) : Type 0 where
  pub within : place < length xs
  pub item : X
  pub there : slice_get xs place ≡ Some item
  pub passes : p item ≡ true

pub found_there : {X : Type 0} (p : X → Bool) (xs : List X) (place : ℕ) → position p xs ≡ Some place → StandsThere p xs place
found_there p [] place e = cc
found_there p (x ∷ xs) place e = let is = position-Some p (x ∷ xs) place x e in record {
  within = is.0;
  item = _;
  there = slice_get-get_or (x ∷ xs) place x is.0;
  passes = is.1;
}
