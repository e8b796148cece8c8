-- The master of a session as it sounds by its playlists, and the file of it.
use Rattle.std.specs.Prelude.{ℕ, ◌*◌, ℤ, List}
use Rattle.ses_units.specs.Bits.{bits_of}
use Rattle.sound_model.specs.Regions.{Sounds}
use Rattle.sound_model.specs.Layers.{track_sample}
use Rattle.sound_model.specs.Routes.{master_sample}
use Rattle.sound_model.specs.Wav.{canon, sound_bytes}
use Rattle.session_model.specs.declared.session.Session.{Session}
use Rattle.session_model.specs.Frames.{interleaved}
use Rattle.session_model.specs.Views.{routes_of, track_regions}
use Rattle.engine_model.specs.Played.{master_channels, master_form}

-- one channel of the master at a place, of what the session's playlists sound like there
abbrev pub offline_sound : Sounds → Session → ℕ → ℕ → ℤ
offline_sound sounds s x c = master_sample (routes_of s) (λ t k. track_sample sounds (track_regions s t) k x) x c

-- so many frames of it from a place on: frame by frame, in each frame channel by channel
abbrev pub offline_samples : Sounds → Session → ℕ → ℕ → List ℤ
offline_samples sounds s from frames = interleaved (offline_sound sounds s) (master_channels s) from (frames * master_channels s)

-- their bytes in the master's file
abbrev pub offline_bytes : Sounds → Session → ℕ → ℕ → List ℕ
offline_bytes sounds s from frames = sound_bytes (bits_of s.bits) (offline_samples sounds s from frames)

-- that file
abbrev pub offline_file : Sounds → Session → ℕ → ℕ → List ℕ
offline_file sounds s from frames = canon (master_form s) (offline_samples sounds s from frames)
