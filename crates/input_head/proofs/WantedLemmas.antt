-- The channels that an input has to have are the most that a track takes.
use Rattle.std.proofs.Common.{◌≡◌, ℕ, zero, suc, ◌+◌, ◌<◌, ◌≤◌, ◌⊎◌, inl, inr, refl, ap, arith, ◌∙◌, sym, subst, max, fold, List, [], ◌∷◌, length, Option, Some, None}
use Rattle.std.specs.Prelude.{slice_get, IfSome}
use Rattle.std.specs.Option.{option_map_or}
use Rattle.std.proofs.lemmas.Option.{slice_get_within}
use Rattle.std.proofs.lemmas.Bool.{cases_lt}
use Rattle.session_model.specs.declared.session.Session.{Session}
use Rattle.session_model.specs.declared.track.Track.{Track}
use Rattle.session_model.specs.Formed.{IsFormedTrack, channels_at}
use Rattle.session_model.specs.Valid.{IsValid}
use Rattle.input_head.specs.Input.{taken_by, wanted_channels}
use Rattle.input_head.specs.Laws.{Takes, WantedIsTheGreatest}

-- ---- the most of a list

abbrev most_of : {X : Type 0} → (X → ℕ) → ℕ → List X → ℕ
most_of f a xs = fold (λ most x. max most (f x)) a xs

most_rises : {X : Type 0} (f : X → ℕ) (a : ℕ) (xs : List X) → a ≤ most_of f a xs
most_rises f a [] = omega arith
most_rises f a (x ∷ xs) = omega (arith, most_rises f (max a (f x)) xs)

most_is_enough : {X : Type 0} (f : X → ℕ) (a : ℕ) (xs : List X) (i : ℕ) (x : X) → slice_get xs i ≡ Some x → f x ≤ most_of f a xs
most_is_enough f a [] i x there = absurd cc
most_is_enough f a (y ∷ xs) zero x there = let same : f y ≡ f x = ap (λ o. option_map_or f o 0) there in omega (arith, same, most_rises f (max a (f y)) xs)
most_is_enough f a (y ∷ xs) (suc i) x there = most_is_enough f (max a (f y)) xs i x there

abbrev IsOneOf : {X : Type 0} → (X → ℕ) → ℕ → ℕ → List X → Type 0
IsOneOf {X} f n a xs = (n ≡ a) ⊎ ((i : ℕ) × (x : X) × (slice_get xs i ≡ Some x) × (n ≡ f x))

most_is_one : {X : Type 0} (f : X → ℕ) (a : ℕ) (xs : List X) → IsOneOf f (most_of f a xs) a xs
most_is_one f a [] = inl refl
most_is_one {X} f a (x ∷ xs) = go (most_is_one f (max a (f x)) xs)
  where
    first : (most : ℕ) → most ≡ max a (f x) → (a < f x) ⊎ (f x ≤ a) → IsOneOf f most a (x ∷ xs)
    first most e (inl less) = inr (0, x, refl, omega arith)
    first most e (inr more) = inl (omega arith)

    go : IsOneOf f (most_of f (max a (f x)) xs) (max a (f x)) xs → IsOneOf f (most_of f (max a (f x)) xs) a (x ∷ xs)
    go (inl e) = first _ e (cases_lt a (f x))
    go (inr (i, y, there, e)) = inr (suc i, y, there, e)

-- ---- the channels that are wanted

taken_from : (s : Session) (k : Track) (first : ℕ) → k.input ≡ Some first → taken_by s k ≡ first + channels_at s k.route
taken_from s k first e = ap (λ o. option_map_or (λ c. c + channels_at s k.route) o 0) e

least_of : (s : Session) (n : ℕ) → IsOneOf (taken_by s) n 0 s.tracks.items → (n ≡ 0) ⊎ ((first : ℕ) × (k : Track) × Takes s first k × (n ≡ first + channels_at s k.route))
least_of s n (inl none) = inl none
least_of s n (inr (i, k, there, e)) = go k.input refl
  where
    go : (o : Option ℕ) → k.input ≡ o → (n ≡ 0) ⊎ ((first : ℕ) × (k : Track) × Takes s first k × (n ≡ first + channels_at s k.route))
    go None none = inl (e ∙ ap (λ o. option_map_or (λ c. c + channels_at s k.route) o 0) none)
    go (Some first) input = inr (first, k, record { place = i; there = there; input = input }, e ∙ taken_from s k first input)

pub wanted_is_the_greatest : WantedIsTheGreatest
unfolding wanted_channels
wanted_is_the_greatest s = record {
  enough = λ first k takes. subst (λ n. n ≤ wanted_channels s) (taken_from s k first takes.input) (most_is_enough (taken_by s) 0 s.tracks.items takes.place k takes.there);
  least = least_of s (wanted_channels s) (most_is_one (taken_by s) 0 s.tracks.items);
}

-- ---- a track of a valid session

track_of : (s : Session) (place : ℕ) (k : Track) → IsValid s → slice_get s.tracks.items place ≡ Some k → IsFormedTrack s place k
track_of s place k valid there = valid.formed.tracks place k there

pub route_within : (s : Session) (place : ℕ) (k : Track) → IsValid s → slice_get s.tracks.items place ≡ Some k → k.route < length s.routes.items
route_within s place k valid there = omega (arith, (track_of s place k valid there).route, slice_get_within s.tracks.items place k there, valid.formed.limits.master)

pub input_within : (s : Session) (place : ℕ) (k : Track) → IsValid s → slice_get s.tracks.items place ≡ Some k → IfSome k.input (λ first. first + channels_at s k.route ≤ 8)
input_within s place k valid there = subst (λ r. IfSome k.input (λ first. first + channels_at s r ≤ 8)) (sym (track_of s place k valid there).route) (track_of s place k valid there).input
