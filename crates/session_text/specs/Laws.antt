-- What holds of every session that is read, and of its text.
use Rattle.std.specs.Prelude.{◌≡◌, ℕ, ℤ, List, Ok}
use Rattle.sound_model.specs.Regions.{Sounds}
use Rattle.sound_model.specs.Layers.{track_sample}
use Rattle.sound_model.specs.Routes.{master_sample}
use Rattle.session_model.specs.Views.{routes_of, track_regions}
use Rattle.session_model.specs.declared.session.Session.{Session}
use Rattle.session_toml.specs.Session.{session}
use Rattle.session_text.specs.Session.{as_read}

-- a session that is read has those rooms already
abbrev pub ReadSessionsStay : Type 0
ReadSessionsStay = (bytes : List ℕ) (s : Session) → session bytes ≡ Ok s → as_read s ≡ s

-- the sound of a session whose sources sound so: channel c of its master at position x, before any edit
abbrev pub session_sound : Sounds → Session → ℕ → ℕ → ℤ
session_sound sounds s x c = master_sample (routes_of s) (λ t k. track_sample sounds (track_regions s t) k x) x c

-- a session that is read of another's text sounds as that one does
abbrev pub MigratedSoundsTheSame : Type 0
MigratedSoundsTheSame = (sounds : Sounds) (s : Session) (x c : ℕ) → session_sound sounds (as_read s) x c ≡ session_sound sounds s x c
