-- What an export is: the sound of the session's master from a place on. Frames and channels count from 0.
use Rattle.std.specs.Prelude.{◌≡◌, ℕ, ◌+◌, ◌*◌, ◌^◌, ◌<◌, ℤ, List}
use Rattle.sound_model.specs.Regions.{Sounds}
use Rattle.sound_model.specs.Layers.{track_sample}
use Rattle.sound_model.specs.Routes.{master_sample}
use Rattle.session_model.specs.declared.session.Session.{Session}
use Rattle.session_model.specs.Views.{routes_of, track_regions}
use Rattle.session_model.specs.Frames.{interleaved}
use Rattle.engine_model.specs.Plain.{accepted, plain, export_commands}
use Rattle.engine_model.specs.Played.{samples_of, master_channels, master_samples}

-- what a run of so many cycles on one thread gives, told to play from a place on
abbrev pub exported : Sounds → Session → ℕ → ℕ → List ℤ
exported sounds session cycles from = let commands = export_commands from in let edits = accepted session cycles commands in
    master_samples session edits (samples_of sounds session edits) cycles (plain session cycles commands)

-- the session's master from a place on: its routes over its tracks' regions, frame by frame
abbrev pub master_from : Sounds → Session → ℕ → ℕ → ℕ → ℤ
master_from sounds session from i c = master_sample (routes_of session) (λ t k. track_sample sounds (track_regions session t) k (from + i)) (from + i) c

-- An export is so many blocks of the master.
abbrev pub AnExportIsTheMaster : Type 0
AnExportIsTheMaster = (sounds : Sounds) (session : Session) (cycles from : ℕ) → from < 2 ^ 40 →
    exported sounds session cycles from ≡ interleaved (master_from sounds session from) (master_channels session) 0 (cycles * session.block * master_channels session)
