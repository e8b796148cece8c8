-- One frame of a track and of the master.
use Rattle.std.specs.Prelude.{◌≡◌, ℕ, ◌+◌, ◌*◌, ◌<◌, ℤ, pos, List, map, slice_index_or}
use Rattle.std.specs.List.{range_with_len}
use Rattle.sound_model.specs.Regions.{Region, Sounds}
use Rattle.sound_model.specs.Layers.{track_sample}
use Rattle.sound_model.specs.Routes.{master_sample}
use Rattle.session_model.specs.declared.session.Session.{Session}
use Rattle.session_model.specs.Formed.{channels_at}
use Rattle.session_model.specs.Views.{routes_of, track_regions}
use Rattle.engine_model.specs.Played.{master_channels}

-- a number for each channel
abbrev pub frame : (ℕ → ℤ) → ℕ → List ℤ
frame value channels = map value (range_with_len 0 channels)

-- the frame at a place of a track with these regions
abbrev pub track_frame : Sounds → List Region → ℕ → ℕ → List ℤ
track_frame sounds regions channels place = frame (λ c. track_sample sounds regions c place) channels

-- the frame at a place of a session's master, where the tracks have these samples there, by track and channel
abbrev pub master_frame : Session → (ℕ → ℕ → ℤ) → ℕ → List ℤ
master_frame s samples place = frame (λ c. master_sample (routes_of s) samples place c) (master_channels s)

-- the samples of tracks of which each has two numbers, by track and channel
abbrev pub samples : List ℤ → ℕ → ℕ → ℤ
samples tracks t c = slice_index_or tracks (2 * t + c) (pos 0)

-- what a session's tracks sound like at a place, by track and channel
abbrev pub heard_samples : Sounds → Session → ℕ → ℕ → ℕ → ℤ
heard_samples sounds s place t c = track_sample sounds (track_regions s t) c place

-- the first tracks have their samples, each on the channels of its route
abbrev pub AreHeard : Sounds → Session → ℕ → ℕ → List ℤ → Type 0
AreHeard sounds s place n tracks = (t c : ℕ) → t < n → c < channels_at s t → samples tracks t c ≡ heard_samples sounds s place t c

-- the channels of the sources that a session names
abbrev pub named_channels : Session → List ℕ
named_channels s = map (λ d. d.channels) s.sources.items
