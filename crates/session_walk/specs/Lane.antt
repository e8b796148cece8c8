-- The lane of a route: an array of positions and gains (own).
use Rattle.std.specs.Prelude.{ℤ, Bool, List, [], ◌∷◌, Option, None, is_some, is_none, Ok}
use Rattle.std.specs.Option.{option_map, option_and_then, ok_or}
use Rattle.std.specs.List.{list_all}
use Rattle.toml.specs.Data.{Data, as_array, as_integer}
use Rattle.sound_model.specs.Lanes as sound
use Rattle.ses_units.specs.Point.{points_of}
use Rattle.ses_units.specs.Refusal.{first_refusal}
use Rattle.ses_units.specs.declared.point.Point.{Point}
use Rattle.session_model.specs.declared.key.Key.TheVariants as key
use Rattle.session_model.specs.declared.refusal.SessionRefusal.{SessionRefusal}
use Rattle.session_model.specs.declared.refusal.SessionRefusal.TheVariants.{Kind, Range}
use Rattle.session_walk.specs.Section.{Section, Read, ◌>>=◌, holds}
use Rattle.session_walk.specs.Values.{in_range}
use Rattle.session_walk.specs.Arrays.{listed_items, array, each}

abbrev pub two_of : List Data → Option (ℤ × ℤ)
two_of (x ∷ y ∷ []) = option_and_then (λ a. option_map (λ b. (a, b)) (as_integer y)) (as_integer x)
two_of _ = None

-- an array of just two integers, a position and a gain
abbrev pub pair_of : Data → Option (ℤ × ℤ)
pair_of value = option_and_then (λ items. two_of (listed_items items)) (as_array value)

abbrev pub is_pair : Data → Bool
is_pair value = is_some (pair_of value)

-- the point that a pair is, where both are in range
abbrev pub placed : ℤ × ℤ → Option Point
placed (at, gain) = option_and_then (λ x. option_map (λ g. record { at = x; gain = g }) (in_range 0 262144 gain)) (in_range 0 1099511627775 at)

abbrev pub point_of : Data → Option Point
point_of value = option_and_then placed (pair_of value)

-- the lane of points, where no rule of lanes refuses them
abbrev pub kept : SessionRefusal → List Point → Read (List sound.Point)
kept refusal points = holds (is_none (first_refusal (points_of points))) refusal >>= λ rule. Ok (points_of points)

unfoldable pub lane : Section → Read (List sound.Point)
lane s = do
  items ← array s key.Lane
  pairs ← holds (list_all is_pair items) (Kind s.place key.Lane)
  points ← ok_or (each point_of items) (Range s.place key.Lane)
  kept (Range s.place key.Lane) points
