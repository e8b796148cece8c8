-- What a lane is, and a lane with a point set or taken out (own).
use Rattle.std.specs.Prelude.{◌≡◌, ◌≢◌, ℕ, ◌^◌, ◌<◌, ◌≤◌, ◌==◌, nat_lt, List, ◌∷◌, ◌++◌, length, take, drop, filter, find, All, AllPairs, Option}
use Rattle.std.specs.Option.{option_map}
use Rattle.sound_model.specs.Lanes.{Point}

-- what the points of a lane keep
pub record IsLane (points : List Point) : Type 0 where
  -- at most 1,024 points
  pub few : length points ≤ 1024
  -- each before place 2^40
  pub near : All (λ p. p.at < 2 ^ 40) points
  -- of a gain that isn't too loud
  pub quiet : All (λ p. p.gain ≤ 262144) points
  -- each before all that follow it
  pub rising : AllPairs (λ p q. p.at < q.at) points

abbrev pub points_before : ℕ → List Point → List Point
points_before place points = filter (λ q. nat_lt q.at place) points

abbrev pub points_after : ℕ → List Point → List Point
points_after place points = filter (λ q. nat_lt place q.at) points

-- with p in place of the point there, if one stands there
abbrev pub with_point : List Point → Point → List Point
with_point points p = points_before p.at points ++ p ∷ points_after p.at points

-- the points at other places
abbrev pub without_point : List Point → ℕ → List Point
without_point points place = points_before place points ++ points_after place points

-- the points before a place are the first i, and those after it stand from index j on
pub record PartsAt (points : List Point) (i j place : ℕ) : Type 0 where
  pub before : take i points ≡ points_before place points
  pub after : drop j points ≡ points_after place points

-- the gain of the point at a place, if one stands there
abbrev pub gain_standing : List Point → ℕ → Option ℕ
gain_standing points place = option_map (λ p. p.gain) (find (λ p. p.at == place) points)

-- the gain at one place changes, and no other
pub record ChangesGain (old new : List Point) (place : ℕ) (gain : Option ℕ) : Type 0 where
  pub there : gain_standing new place ≡ gain
  pub elsewhere : (x : ℕ) → x ≢ place → gain_standing new x ≡ gain_standing old x
