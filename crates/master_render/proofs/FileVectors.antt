-- Worked files of the base session: the source has the file samples 100, 200 and so on up to 800.
use Rattle.std.proofs.Common.{◌≡◌, suc, pos, ◌*◌, [], ◌∷◌, refl, map, nat_lt, if◌then◌else◌}
use Rattle.ses_units.specs.declared.bits.Bits.TheVariants.{B24}
use Rattle.sound_model.specs.Numbers.{file_sample}
use Rattle.sound_model.specs.Regions.{Sounds}
use Rattle.sound_model.specs.Layers.{track_sample}
use Rattle.sound_model.specs.Routes.{input_within}
use Rattle.sound_model.specs.Wav.{canon, header}
use Rattle.session_model.specs.declared.session.Session.{Session}
use Rattle.session_model.proofs.SessionVectors.{base}
use Rattle.master_render.specs.Offline.{offline_sound, offline_samples, offline_file}

counting : Sounds
counting s i c = if nat_lt i 8 then pos (suc i * 25600) else pos 0

-- a frame at its place, and one behind the region
third : offline_sound counting base 2 0 ≡ pos 76800
unfolding counting track_sample input_within
third = refl

behind : offline_sound counting base 8 0 ≡ pos 0
unfolding counting track_sample input_within
behind = refl

-- three frames from place 2 on, as a file of 16 bits has them
three : map (file_sample 16) (offline_samples counting base 2 3) ≡ pos 300 ∷ pos 400 ∷ pos 500 ∷ []
unfolding counting track_sample input_within
three = refl

-- the file of them
three_frames : offline_file counting base 2 3
    ≡ 0x52 ∷ 0x49 ∷ 0x46 ∷ 0x46 ∷ 0x2a ∷ 0 ∷ 0 ∷ 0 ∷ 0x57 ∷ 0x41 ∷ 0x56 ∷ 0x45
    ∷ 0x66 ∷ 0x6d ∷ 0x74 ∷ 0x20 ∷ 0x10 ∷ 0 ∷ 0 ∷ 0 ∷ 1 ∷ 0 ∷ 1 ∷ 0 ∷ 0x80 ∷ 0xbb ∷ 0 ∷ 0 ∷ 0 ∷ 0x77 ∷ 1 ∷ 0 ∷ 2 ∷ 0 ∷ 0x10 ∷ 0
    ∷ 0x64 ∷ 0x61 ∷ 0x74 ∷ 0x61 ∷ 6 ∷ 0 ∷ 0 ∷ 0
    ∷ 0x2c ∷ 1 ∷ 0x90 ∷ 1 ∷ 0xf4 ∷ 1 ∷ []
unfolding counting track_sample input_within canon header
three_frames = refl

-- in 24 bits their bytes are odd, so a pad byte stands behind them
abbrev wide : Session
wide = record base { bits = B24 }

three_wide_frames : offline_file counting wide 2 3
    ≡ 0x52 ∷ 0x49 ∷ 0x46 ∷ 0x46 ∷ 0x2e ∷ 0 ∷ 0 ∷ 0 ∷ 0x57 ∷ 0x41 ∷ 0x56 ∷ 0x45
    ∷ 0x66 ∷ 0x6d ∷ 0x74 ∷ 0x20 ∷ 0x10 ∷ 0 ∷ 0 ∷ 0 ∷ 1 ∷ 0 ∷ 1 ∷ 0 ∷ 0x80 ∷ 0xbb ∷ 0 ∷ 0 ∷ 0x80 ∷ 0x32 ∷ 2 ∷ 0 ∷ 3 ∷ 0 ∷ 0x18 ∷ 0
    ∷ 0x64 ∷ 0x61 ∷ 0x74 ∷ 0x61 ∷ 9 ∷ 0 ∷ 0 ∷ 0
    ∷ 0 ∷ 0x2c ∷ 1 ∷ 0 ∷ 0x90 ∷ 1 ∷ 0 ∷ 0xf4 ∷ 1 ∷ 0 ∷ []
unfolding counting track_sample input_within canon header
three_wide_frames = refl
