-- The first rule of a lane that points break (own).
use Rattle.std.specs.Prelude.{◌≡◌, ℕ, suc, ◌-◌, ◌^◌, ◌<◌, ◌≤◌, nat_lt, nat_le, min, if◌then◌else◌, List, [], ◌∷◌, length, take, position, All, AllPairs, Option, Some, None, Result, Ok, Err}
use Rattle.std.specs.Option.{option_map, option_or}
use Rattle.std.specs.List.{slice_index_or, HoldsAt}
use Rattle.sound_model.specs.Lanes.{Point}
use Rattle.ses_units.specs.declared.refusal.LaneRefusal.{LaneRefusal}
use Rattle.ses_units.specs.declared.refusal.LaneRefusal.TheVariants.{TooMany, Far, NotRising, NoMemory}

-- the index of the first point at or past 2^40
unfoldable pub first_far : List Point → Option ℕ
first_far points = position (λ p. nat_le (2 ^ 40) p.at) points

-- the index of the first point that isn't after the one before it, where these follow a point of index i
abbrev pub fall_after : ℕ → ℕ → List Point → Option ℕ
fall_after place i [] = None
fall_after place i (q ∷ qs) = if nat_lt place q.at then fall_after q.at (suc i) qs else Some (suc i)

unfoldable pub first_fall : List Point → Option ℕ
first_fall [] = None
first_fall (p ∷ ps) = fall_after p.at 0 ps

-- what the points are refused for, if they make no lane; a number past 32 bits is told as the greatest of 32 bits
abbrev pub first_refusal : List Point → Option LaneRefusal
first_refusal points = if nat_lt 1024 (length points) then Some (TooMany (min (length points) 4294967295))
    else option_or (option_map Far (first_far points)) (option_map NotRising (first_fall points))

-- point i is the first at or past 2^40
pub record IsFirstFar (points : List Point) (i : ℕ) : Type 0 where
  pub within : i < length points
  pub far : HoldsAt (λ p. 2 ^ 40 ≤ p.at) points i
  pub near : All (λ p. p.at < 2 ^ 40) (take i points)

-- point i is the first that isn't after the one before it
pub record IsFirstFall (points : List Point) (i : ℕ) : Type 0 where
  pub follows : 0 < i
  pub within : i < length points
  pub falls : (d : Point) → (slice_index_or points i d).at ≤ (slice_index_or points (i - 1) d).at
  pub rising : AllPairs (λ p q. p.at < q.at) (take i points)

-- what a refusal says of the points: its rule is broken, and those before it are kept
abbrev pub IsBroken : List Point → LaneRefusal → Type 0
IsBroken points (TooMany n) = (1024 < length points) × (n ≡ min (length points) 4294967295)
IsBroken points (Far i) = (length points ≤ 1024) × IsFirstFar points i
IsBroken points (NotRising i) = (length points ≤ 1024) × All (λ p. p.at < 2 ^ 40) points × IsFirstFall points i
IsBroken points NoMemory = Unit {0}

-- the rule that an answer says the points break; want of memory says nothing of them
abbrev pub refusal_of : {A : Type 0} → Result A LaneRefusal → Option LaneRefusal
refusal_of (Ok a) = None
refusal_of (Err NoMemory) = None
refusal_of (Err (TooMany n)) = Some (TooMany n)
refusal_of (Err (Far i)) = Some (Far i)
refusal_of (Err (NotRising i)) = Some (NotRising i)
