-- A region: a part of a source, placed on a track (Ardour's manual; the fades, their shapes and the gain's arithmetic are own).
use Rattle.std.specs.Prelude.{ℕ, ◌+◌, ◌-◌, ◌*◌, ◌/◌, ℤ, pos, Bool, ◌&&◌, nat_lt, nat_le, if◌then◌else◌}
use Rattle.sound_model.specs.Numbers.{unity, scale}

-- how a fade goes: along a straight line, or along the square of that line, which lies below it
pub data Shape : Type 0 where
  Linear : Shape
  Slow : Shape

-- frames and positions are counted in frames, `long` is the region's length, and a source goes by its number
pub record Region : Type 0 where
  pub id : ℕ
  pub source : ℕ
  pub start : ℕ
  pub long : ℕ
  pub at : ℕ
  pub layer : ℕ
  pub gain : ℕ
  pub opaque : Bool
  pub fade_in : ℕ
  pub fade_out : ℕ
  pub shape_in : Shape
  pub shape_out : Shape

-- the sample of a source, by its number, its frame and its channel
abbrev pub Sounds : Type 0
Sounds = ℕ → ℕ → ℕ → ℤ

abbrev pub covers : Region → ℕ → Bool
covers r x = nat_le r.at x && nat_lt x (r.at + r.long)

-- a value of a straight fade, in a shape
abbrev pub shaped : Shape → ℕ → ℕ
shaped Linear v = v
shaped Slow v = v * v / unity

-- the fade value at frame i of the region
abbrev pub fade : Region → ℕ → ℕ
fade r i = if nat_lt i r.fade_in then shaped r.shape_in (unity * i / r.fade_in)
    else (if nat_le r.long (i + r.fade_out) then shaped r.shape_out (unity * (r.long - 1 - i) / r.fade_out) else unity)

-- the region's own sample at position x, before its fade
abbrev pub region_sample : Sounds → Region → ℕ → ℕ → ℤ
region_sample sounds r c x = if covers r x then scale (sounds r.source (r.start + x - r.at) c) r.gain else pos 0
