-- Blocks by hand: round a loop with two channels, at one place again and again, and of a region over another.
use Rattle.std.proofs.Common.{◌≡◌, ℕ, ◌+◌, ◌*◌, [], ◌∷◌, refl, lit≤}
use Rattle.std.specs.Prelude.{pos, nat_lt, true, false, if◌then◌else◌, Some, None, Option}
use Rattle.sound_model.specs.Numbers.{unity}
use Rattle.sound_model.specs.Regions.{Region, Sounds, Linear}
use Rattle.sound_model.specs.Layers.{track_sample}
use Rattle.engine_model.specs.Transport.{Transport, Wrap}
use Rattle.track_render.specs.Blocks.{IsBlock, placed_block}

-- a source of six frames: 10 to 60 in the first channel, 1010 to 1060 in the second
abbrev six : Sounds
six source frame channel = if nat_lt frame 6 then pos ((frame + 1) * 10 + channel * 1000) else pos 0

-- all of it, from place 4 on
abbrev region : Region
region = record { id = 1; source = 0; start = 0; long = 6; at = 4; layer = 0; gain = unity; opaque = true; fade_in = 0; fade_out = 0; shape_in = Linear; shape_out = Linear }

-- its first frame at half its gain, over the second of the other
abbrev half : Region
half = record { id = 2; source = 0; start = 0; long = 1; at = 5; layer = 1; gain = 32768; opaque = true; fade_in = 0; fade_out = 0; shape_in = Linear; shape_out = Linear }

abbrev located : ℕ → Option Wrap → Transport
located target wrap = record { rolling = true; recording = false; generation = 1; target = target; wrap = wrap; quit = false }

-- ---- places 3 to 5, again and again, from the second frame on

ends_within_a_block : placed_block six (region ∷ []) 2 (located 3 (Some (record { from = 3; to = 6 }))) 1 10
    ≡ pos 10 ∷ pos 1010 ∷ pos 20 ∷ pos 1020 ∷ pos 0 ∷ pos 0 ∷ pos 10 ∷ pos 1010 ∷ pos 20 ∷ pos 1020 ∷ []
unfolding track_sample
ends_within_a_block = refl

-- ---- a loop of one place

at_one_place : placed_block six (region ∷ []) 1 (located 5 (Some (record { from = 5; to = 6 }))) 0 4 ≡ pos 20 ∷ pos 20 ∷ pos 20 ∷ pos 20 ∷ []
unfolding track_sample
at_one_place = refl

-- ---- a region over another, without a loop and past one

over_another : placed_block six (region ∷ half ∷ []) 2 (located 4 None) 0 6 ≡ pos 10 ∷ pos 1010 ∷ pos 5 ∷ pos 505 ∷ pos 30 ∷ pos 1030 ∷ []
unfolding track_sample
over_another = refl

past_a_loop : placed_block six (region ∷ half ∷ []) 2 (located 4 (Some (record { from = 1; to = 4 }))) 0 6 ≡ pos 10 ∷ pos 1010 ∷ pos 5 ∷ pos 505 ∷ pos 30 ∷ pos 1030 ∷ []
unfolding track_sample
past_a_loop = refl

-- ---- room

most_of_two_channels : IsBlock 2 4096 8192
most_of_two_channels = record { whole = refl; room = lit≤ tt }
