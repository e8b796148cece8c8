-- Worked values of routes, as 16-bit file samples of one frame of the master.
use Rattle.std.proofs.Common.{◌≡◌, ℕ, List, [], ◌∷◌, refl, map, get_or, Bool, true, false, Some, None}
use Rattle.std.specs.Prelude.{ℤ, pos, ◌*ℤ◌}
use Rattle.std.specs.List.{range_with_len}
use Rattle.sound_model.specs.Numbers.{file_sample}
use Rattle.sound_model.specs.Lanes.{Manual}
use Rattle.sound_model.specs.Routes.{Route, input_within, has_cycle, master_sample}

-- a mono route at unity into route `target`
abbrev mono : ℕ → Route
mono target = record {
  track = None;
  channels = 1;
  fader = 65536;
  mode = Manual;
  lane = [];
  muted = false;
  soloed = false;
  left = 65536;
  right = 65536;
  target = Some target;
  sends = [];
}

abbrev track_into : ℕ → ℕ → Route
track_into t target = record (mono target) { track = Some t }

abbrev master : Route
master = record (mono 0) { target = None }

-- the tracks' samples in 16 bits, each track with one channel
abbrev tracks : List ℤ → ℕ → ℕ → ℤ
tracks samples t c = get_or samples t (pos 0) *ℤ pos 256

abbrev heard : List Route → List ℤ → ℕ → ℤ
heard routes samples c = file_sample 16 (master_sample routes (tracks samples) 0 c)

one_track : heard (track_into 0 1 ∷ master ∷ []) (pos 400 ∷ []) 0 ≡ pos 400
unfolding input_within
one_track = refl

no_track : heard (master ∷ []) [] 0 ≡ pos 0
unfolding input_within
no_track = refl

two_tracks_clip : heard (track_into 0 2 ∷ track_into 1 2 ∷ master ∷ []) (pos 30000 ∷ pos 30000 ∷ []) 0 ≡ pos 32767
unfolding input_within
two_tracks_clip = refl

-- a track at half its level sends to bus 1 at unity, and both go to the master
abbrev sending : Bool → List Route
sending before = record (track_into 0 2) { fader = 32768; sends = record { to = 1; pre = before; gain = 65536 } ∷ [] } ∷ mono 2 ∷ master ∷ []

send_before_the_fader : heard (sending true) (pos 400 ∷ []) 0 ≡ pos 600
unfolding input_within
send_before_the_fader = refl

send_after_the_fader : heard (sending false) (pos 400 ∷ []) 0 ≡ pos 400
unfolding input_within
send_after_the_fader = refl

abbrev stereo_master : Route
stereo_master = record master { channels = 2 }

mono_into_stereo : map (heard (record (track_into 0 1) { right = 32768 } ∷ stereo_master ∷ []) (pos 400 ∷ [])) (range_with_len 0 2) ≡ pos 400 ∷ pos 200 ∷ []
unfolding input_within
mono_into_stereo = refl

solo : heard (track_into 0 2 ∷ record (track_into 1 2) { soloed = true } ∷ master ∷ []) (pos 100 ∷ pos 200 ∷ []) 0 ≡ pos 200
unfolding input_within
solo = refl

mute : heard (track_into 0 2 ∷ record (track_into 1 2) { muted = true } ∷ master ∷ []) (pos 100 ∷ pos 200 ∷ []) 0 ≡ pos 100
unfolding input_within
mute = refl

-- a muted bus gives nothing on, also of what is soloed
muted_bus : heard (record (track_into 0 1) { soloed = true } ∷ record (mono 2) { muted = true } ∷ master ∷ []) (pos 100 ∷ []) 0 ≡ pos 0
unfolding input_within
muted_bus = refl

-- the sum is clipped at a bus, before its fader: four times 2^30 at an eighth is 2^31 - 1 at an eighth
bus_clips_before_its_fader : master_sample (track_into 0 4 ∷ track_into 1 4 ∷ track_into 2 4 ∷ track_into 3 4 ∷ record (mono 5) { fader = 8192 } ∷ master ∷ []) (λ t c. pos 1073741824) 0 0 ≡ pos 268435455
unfolding input_within
bus_clips_before_its_fader = refl

-- ---- cycles

no_cycle : has_cycle (sending true) ≡ false
no_cycle = refl

-- bus 1 sends back to bus 0, which leads to it
round_by_a_send : has_cycle (mono 1 ∷ record (mono 2) { sends = record { to = 0; pre = true; gain = 0 } ∷ [] } ∷ master ∷ []) ≡ true
round_by_a_send = refl

round_by_itself : has_cycle (track_into 0 1 ∷ mono 1 ∷ master ∷ []) ≡ true
round_by_itself = refl
