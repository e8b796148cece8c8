-- Worked values of made sessions and of their source.
use Rattle.std.proofs.Common.{◌≡◌, [], ◌∷◌, refl, true, false, length, map, Some, None, slice_get, codes}
use Rattle.std.specs.Fmt.{digits}
use Rattle.std.specs.Option.{option_map}
use Rattle.std.specs.Prelude.{take, drop}
use Rattle.sound_model.specs.Regions as sound
use Rattle.sound_model.specs.Wav.{canon, header}
use Rattle.session_model.specs.Tests.{is_formed, is_valid}
use Rattle.made_session.specs.Each.{each_below}
use Rattle.made_session.specs.Made.{tracks, regions, region, route, track, route_items, playlist, fader, made_session}
use Rattle.made_session.specs.Tone.{tone}

-- ---- how many there are

least : tracks 0 ∷ regions 0 ∷ [] ≡ 1 ∷ 1 ∷ []
least = refl

last_of_one_region : tracks 31 ∷ regions 31 ∷ [] ≡ 32 ∷ 1 ∷ []
last_of_one_region = refl

two_regions : tracks 32 ∷ regions 32 ∷ [] ≡ 1 ∷ 2 ∷ []
two_regions = refl

greatest : tracks 8191 ∷ regions 8191 ∷ [] ≡ 32 ∷ 256 ∷ []
greatest = refl

-- ---- names, faders, targets

names : map (λ q. q.name) (route_items 1) ≡ codes "t0" ∷ codes "t1" ∷ codes "master" ∷ []
unfolding digits each_below route
names = refl

last_name : option_map (λ q. q.name) (slice_get (route_items 8191) 31) ≡ Some (codes "t31")
unfolding digits each_below route
last_name = refl

faders : map (λ q. q.fader) (route_items 3) ≡ 65536 ∷ 32768 ∷ 21845 ∷ 16384 ∷ 65536 ∷ []
unfolding each_below route
faders = refl

last_fader : fader 31 ≡ 2048
last_fader = refl

targets : map (λ q. q.target) (route_items 1) ≡ Some 2 ∷ Some 2 ∷ None ∷ []
unfolding each_below route
targets = refl

-- ---- regions

fourth : region 3 ≡ record { id = 4; source = 0; start = 0; long = 4096; at = 768; layer = 3; gain = 65536; opaque = false; fade_in = 192; fade_out = 0; shape_in = sound.Linear; shape_out = sound.Linear }
unfolding region
fourth = refl

last_region : region 255 ≡ record { id = 256; source = 0; start = 0; long = 4096; at = 65280; layer = 255; gain = 65536; opaque = false; fade_in = 192; fade_out = 0; shape_in = sound.Linear; shape_out = sound.Linear }
unfolding region
last_region = refl

of_thirty_two : playlist 32 ≡ region 0 ∷ region 1 ∷ []
unfolding each_below
of_thirty_two = refl

-- ---- whole sessions

first_is_valid : is_valid (made_session 0) ≡ true
unfolding digits each_below route track region made_session is_formed is_valid
first_is_valid = refl

third_is_valid : is_valid (made_session 34) ≡ true
unfolding digits each_below route track region made_session is_formed is_valid
third_is_valid = refl

-- ---- the file of the source: its header, and some of its bytes

head_bytes : take 44 tone ≡ header (record { channels = 1; rate = 48000; bits = 16 }) 8192
unfolding tone canon header each_below
head_bytes = refl

first_bytes : take 6 (drop 44 tone) ≡ 0 ∷ 0 ∷ 1 ∷ 0 ∷ 2 ∷ 0 ∷ []
unfolding tone canon header each_below
first_bytes = refl

-- frame 128 is 0 again
bytes_at_128 : take 6 (drop 298 tone) ≡ 127 ∷ 0 ∷ 0 ∷ 0 ∷ 1 ∷ 0 ∷ []
unfolding tone canon header each_below
bytes_at_128 = refl

whole_file : length tone ≡ 8236
unfolding tone canon header each_below
whole_file = refl
