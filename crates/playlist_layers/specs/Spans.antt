-- Spans of a block, inside which no region begins or ends.
use Rattle.std.specs.Prelude.{◌≡◌, ℕ, ◌+◌, ◌<◌, ◌≤◌, true, List, map, slice_index_or}
use Rattle.sound_model.specs.Regions.{Region, Sounds, Linear}
use Rattle.sound_model.specs.Layers.{lay}

-- the region covers all positions from one up to another, or none
pub record IsWhole (here end : ℕ) (r : Region) : Type 0 where
  pub begins : here < r.at → end ≤ r.at
  pub ends : here < r.at + r.long → end ≤ r.at + r.long

-- the region covers so many positions from one on
pub record CoversSpan (here count : ℕ) (r : Region) : Type 0 where
  pub begun : r.at ≤ here
  pub lasts : here + count ≤ r.at + r.long

-- a region without frames, which stands where there is none
abbrev pub no_region : Region
no_region = record {
  id = 0;
  source = 0;
  start = 0;
  long = 0;
  at = 0;
  layer = 0;
  gain = 0;
  opaque = true;
  fade_in = 0;
  fade_out = 0;
  shape_in = Linear;
  shape_out = Linear;
}

-- the regions at these places
abbrev pub picked : List Region → List ℕ → List Region
picked regions places = map (λ p. slice_index_or regions p no_region) places

-- regions sound as others do, over so many positions from one on; both stand highest first
abbrev pub SoundAlike : ℕ → ℕ → List Region → List Region → Type 0
SoundAlike here count regions others =
    (sounds : Sounds) (c x : ℕ) → here ≤ x → x < here + count → lay sounds c x regions ≡ lay sounds c x others
