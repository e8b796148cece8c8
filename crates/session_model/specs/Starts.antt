-- The index of a playlist: its regions a second time, by their starts, each with how far those up to it reach (own).
use Rattle.std.specs.Prelude.{◌≡◌, ℕ, suc, ◌+◌, ◌^◌, ◌<◌, ◌≤◌, Bool, ◌&&◌, ◌==◌, nat_lt, List, [], ◌∷◌, map, All}
use Rattle.std.specs.List.{list_any}
use Rattle.std.specs.List.Sorted.{IsNonDecreasingBy}
use Rattle.sound_model.specs.Regions.{Region}
use Rattle.session_model.specs.declared.starts.Stretch.{Stretch}

-- a region at its place in layer order, before its reach is known
abbrev pub stretch : ℕ → Region → Stretch
stretch place r = record { place = place; at = r.at; end = r.at + r.long; reach = 0 }

abbrev pub stretches_from : ℕ → List Region → List Stretch
stretches_from place [] = []
stretches_from place (r ∷ rs) = stretch place r ∷ stretches_from (suc place) rs

-- a stretch without its reach
abbrev pub bare : Stretch → Stretch
bare s = record s { reach = 0 }

-- The stretches are those of the regions: a test that one passes is passed by one of the others.
abbrev pub IsIndexOf : List Region → List Stretch → Type 0
IsIndexOf regions index = (p : Stretch → Bool) → list_any p (map bare index) ≡ list_any p (stretches_from 0 regions)

-- a stretch of a region within its limits, at one of 256 places
pub record IsStretch (s : Stretch) : Type 0 where
  pub place : s.place < 256
  pub at : s.at ≤ 2 ^ 40

pub record IsRising (index : List Stretch) : Type 0 where
  pub each : All IsStretch index
  -- by start
  pub starts : IsNonDecreasingBy (λ s. s.at) index
  -- none ends beyond its reach, nor does one before it
  pub ends : All (λ s. s.end ≤ s.reach) index
  pub reaches : IsNonDecreasingBy (λ s. s.reach) index

-- the stretch is that of a place, and shares a position with so many frames from a position on
abbrev pub meets_at : ℕ → ℕ → ℕ → Stretch → Bool
meets_at from frames place s = s.place == place && nat_lt s.at (from + frames) && nat_lt from s.end

-- the stretch is that of a place, and goes on beyond a position
abbrev pub goes_on : ℕ → ℕ → Stretch → Bool
goes_on from place s = s.place == place && nat_lt from s.end
