-- Worked values of regions, fades, layers and lanes, as 16-bit file samples of eight frames.
use Rattle.std.proofs.Common.{◌≡◌, List, [], ◌∷◌, refl, map, get_or, Bool, true, false}
use Rattle.std.specs.Prelude.{ℤ, pos, negsuc, ◌*ℤ◌}
use Rattle.std.specs.List.{range_with_len}
use Rattle.sound_model.specs.Numbers.{file_sample, scale}
use Rattle.sound_model.specs.Regions.{Region, Sounds, Linear, Slow, fade}
use Rattle.sound_model.specs.Lanes.{Point, Play, Manual, gain_at}
use Rattle.sound_model.specs.Layers.{track_sample}

-- a source of 16 bits
abbrev source_of : List ℤ → Sounds
source_of samples s i c = get_or samples i (pos 0) *ℤ pos 256

abbrev constant : ℤ → Sounds
constant v s i c = v *ℤ pos 256

abbrev eight_frames : Sounds → List Region → List ℤ
eight_frames sounds regions = map (λ x. file_sample 16 (track_sample sounds regions 0 x)) (range_with_len 0 8)

abbrev hundreds : List ℤ
hundreds = pos 100 ∷ pos 200 ∷ pos 300 ∷ pos 400 ∷ pos 500 ∷ pos 600 ∷ pos 700 ∷ pos 800 ∷ []

abbrev whole : Region
whole = record { id = 1; source = 0; start = 0; long = 8; at = 0; layer = 0; gain = 65536; opaque = true; fade_in = 0; fade_out = 0; shape_in = Linear; shape_out = Linear }

base_export : eight_frames (source_of hundreds) (whole ∷ []) ≡ hundreds
unfolding track_sample
base_export = refl

no_region : eight_frames (source_of hundreds) [] ≡ map (λ k. pos 0) (range_with_len 0 8)
unfolding track_sample
no_region = refl

region_inside : eight_frames (source_of hundreds) (record whole { start = 2; long = 4; at = 2 } ∷ [])
    ≡ pos 0 ∷ pos 0 ∷ pos 300 ∷ pos 400 ∷ pos 500 ∷ pos 600 ∷ pos 0 ∷ pos 0 ∷ []
unfolding track_sample
region_inside = refl

region_gain_floors : eight_frames (source_of (pos 1 ∷ negsuc 0 ∷ [])) (record whole { long = 2; gain = 32768 } ∷ [])
    ≡ pos 0 ∷ negsuc 0 ∷ pos 0 ∷ pos 0 ∷ pos 0 ∷ pos 0 ∷ pos 0 ∷ pos 0 ∷ []
unfolding track_sample
region_gain_floors = refl

-- ---- fades

fade_in : eight_frames (constant (pos 400)) (record whole { fade_in = 4 } ∷ [])
    ≡ pos 0 ∷ pos 100 ∷ pos 200 ∷ pos 300 ∷ pos 400 ∷ pos 400 ∷ pos 400 ∷ pos 400 ∷ []
unfolding track_sample
fade_in = refl

slow_fade : eight_frames (constant (pos 400)) (record whole { fade_in = 4; shape_in = Slow } ∷ [])
    ≡ pos 0 ∷ pos 25 ∷ pos 100 ∷ pos 225 ∷ pos 400 ∷ pos 400 ∷ pos 400 ∷ pos 400 ∷ []
unfolding track_sample
slow_fade = refl

-- each end has its own shape, and a slow value is rounded down twice
slow_out_alone : map (fade (record whole { fade_in = 2; fade_out = 3; shape_out = Slow })) (range_with_len 0 8)
    ≡ 0 ∷ 32768 ∷ 65536 ∷ 65536 ∷ 65536 ∷ 29126 ∷ 7281 ∷ 0 ∷ []
slow_out_alone = refl

-- the last frame of a region is silent under a fade-out
fade_out : map (fade (record whole { fade_in = 2; fade_out = 4 })) (range_with_len 0 8)
    ≡ 0 ∷ 32768 ∷ 65536 ∷ 65536 ∷ 49152 ∷ 32768 ∷ 16384 ∷ 0 ∷ []
fade_out = refl

-- ---- layers

-- The region above has the lesser id: layers come before ids.
abbrev faded_over : Bool → List Region
faded_over opaque = record whole { id = 1; layer = 1; source = 1; opaque = opaque; fade_in = 4 } ∷ record whole { id = 2 } ∷ []

-- source 0 is 800, source 1 is 400
abbrev two_constants : Sounds
two_constants s i c = get_or (pos 204800 ∷ pos 102400 ∷ []) s (pos 0)

opaque_over : eight_frames two_constants (faded_over true)
    ≡ pos 800 ∷ pos 700 ∷ pos 600 ∷ pos 500 ∷ pos 400 ∷ pos 400 ∷ pos 400 ∷ pos 400 ∷ []
unfolding track_sample
opaque_over = refl

transparent_over : eight_frames two_constants (record whole { id = 1; layer = 1; source = 1; opaque = false } ∷ record whole { id = 2 } ∷ [])
    ≡ map (λ k. pos 1200) (range_with_len 0 8)
unfolding track_sample
transparent_over = refl

-- on one layer the greater id is above
greater_id_over : eight_frames two_constants (record whole { id = 2; source = 1 } ∷ record whole { id = 1 } ∷ []) ≡ map (λ k. pos 400) (range_with_len 0 8)
unfolding track_sample
greater_id_over = refl

-- ---- lanes

abbrev falling : List Point
falling = record { at = 0; gain = 65536 } ∷ record { at = 4; gain = 0 } ∷ []

lane_falls : map (λ x. file_sample 16 (scale (pos 102400) (gain_at Play 65536 falling x))) (range_with_len 0 8)
    ≡ pos 400 ∷ pos 300 ∷ pos 200 ∷ pos 100 ∷ pos 0 ∷ pos 0 ∷ pos 0 ∷ pos 0 ∷ []
lane_falls = refl

-- before the first point, and rounded down between points, rising and falling
lane_rounds_down : map (gain_at Play 5 (record { at = 2; gain = 0 } ∷ record { at = 5; gain = 10 } ∷ record { at = 8; gain = 0 } ∷ [])) (range_with_len 0 10)
    ≡ 0 ∷ 0 ∷ 0 ∷ 3 ∷ 6 ∷ 10 ∷ 6 ∷ 3 ∷ 0 ∷ 0 ∷ []
lane_rounds_down = refl

empty_lane_is_the_fader : gain_at Play 5 [] 7 ≡ 5
empty_lane_is_the_fader = refl

manual_is_the_fader : gain_at Manual 5 falling 0 ≡ 5
manual_is_the_fader = refl
