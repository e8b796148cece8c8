-- Worked lanes: what points are refused for, and a point set and taken out.
use Rattle.std.proofs.Common.{◌≡◌, List, [], ◌∷◌, Some, None, refl, replicate}
use Rattle.sound_model.specs.Lanes.{Point}
use Rattle.ses_units.specs.declared.refusal.LaneRefusal.TheVariants.{TooMany, Far, NotRising}
use Rattle.ses_units.specs.Refusal.{first_refusal, first_far, first_fall}
use Rattle.ses_units.specs.Lane.{with_point, without_point, gain_standing}

abbrev falling : List Point
falling = record { at = 0; gain = 65536 } ∷ record { at = 4; gain = 0 } ∷ []

no_point_is_a_lane : first_refusal [] ≡ None
unfolding first_far first_fall
no_point_is_a_lane = refl

falling_is_a_lane : first_refusal falling ≡ None
unfolding first_far first_fall
falling_is_a_lane = refl

last_place_is_near : first_refusal (record { at = 1099511627775; gain = 0 } ∷ []) ≡ None
unfolding first_far first_fall
last_place_is_near = refl

next_place_is_far : first_refusal (record { at = 0; gain = 0 } ∷ record { at = 1099511627776; gain = 0 } ∷ []) ≡ Some (Far 1)
unfolding first_far first_fall
next_place_is_far = refl

one_place_twice : first_refusal (record { at = 4; gain = 0 } ∷ record { at = 4; gain = 0 } ∷ []) ≡ Some (NotRising 1)
unfolding first_far first_fall
one_place_twice = refl

-- the fall stands first, and is told only where no point is far
far_before_falling : first_refusal (record { at = 4; gain = 0 } ∷ record { at = 3; gain = 0 } ∷ record { at = 1099511627776; gain = 0 } ∷ []) ≡ Some (Far 2)
unfolding first_far first_fall
far_before_falling = refl

too_many_before_falling : first_refusal (replicate 1025 (record { at = 4; gain = 0 })) ≡ Some (TooMany 1025)
unfolding first_far first_fall
too_many_before_falling = refl

set_between : with_point falling (record { at = 2; gain = 7 })
    ≡ record { at = 0; gain = 65536 } ∷ record { at = 2; gain = 7 } ∷ record { at = 4; gain = 0 } ∷ []
set_between = refl

set_over : with_point falling (record { at = 4; gain = 7 }) ≡ record { at = 0; gain = 65536 } ∷ record { at = 4; gain = 7 } ∷ []
set_over = refl

taken_out : without_point falling 0 ≡ record { at = 4; gain = 0 } ∷ []
taken_out = refl

standing : gain_standing falling 4 ≡ Some 0
standing = refl

not_standing : gain_standing falling 3 ≡ None
not_standing = refl
