-- The fade values of a block of a region.
use Rattle.std.specs.Prelude.{◌≡◌, ℕ, ◌+◌, ◌≤◌, ◌⊎◌, true, List, map}
use Rattle.std.specs.List.{range_with_len}
use Rattle.sound_model.specs.Regions.{Region, Shape, fade}
use Rattle.ses_units.specs.declared.shape.Shape as code
use Rattle.ses_units.specs.Shape.{shape_of}

-- a region so long, with these fades; what a fade value doesn't ask for is nothing
abbrev pub faded_region : ℕ → ℕ → ℕ → Shape → Shape → Region
faded_region long fade_in fade_out shape_in shape_out = record {
  id = 0;
  source = 0;
  start = 0;
  long = long;
  at = 0;
  layer = 0;
  gain = 0;
  opaque = true;
  fade_in = fade_in;
  fade_out = fade_out;
  shape_in = shape_in;
  shape_out = shape_out;
}

-- the fade values of so many frames from the first on
abbrev pub fades : Region → ℕ → ℕ → List ℕ
fades r first count = map (fade r) (range_with_len first count)

-- the fade values of frames of a region, by its length, its fades and their shapes as the code has them
abbrev pub ramp : ℕ → ℕ → ℕ → code.Shape → code.Shape → ℕ → ℕ → List ℕ
ramp long fade_in fade_out shape_in shape_out first count =
    fades (faded_region long fade_in fade_out (shape_of shape_in) (shape_of shape_out)) first count

-- there is no frame, or none lies in a fade
abbrev pub IsUnfaded : ℕ → ℕ → ℕ → ℕ → ℕ → Type 0
IsUnfaded long fade_in fade_out first count = (count ≡ 0) ⊎ ((fade_in ≤ first) × (first + count + fade_out ≤ long))
