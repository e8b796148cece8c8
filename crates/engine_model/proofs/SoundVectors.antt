-- Blocks, pieces and the master's file of worked runs: the source has the file samples 100, 200 and so on.
use Rattle.std.proofs.Common.{◌≡◌, ℕ, suc, ℤ, pos, ◌*◌, List, [], ◌∷◌, refl, map, nat_lt, if◌then◌else◌}
use Rattle.sound_model.specs.Numbers.{file_sample}
use Rattle.sound_model.specs.Regions.{Sounds}
use Rattle.sound_model.specs.Layers.{track_sample}
use Rattle.sound_model.specs.Routes.{input_within}
use Rattle.sound_model.specs.Wav.{canon, header}
use Rattle.session_model.specs.declared.session.Session.{Session}
use Rattle.session_model.specs.declared.edit.Edit.{Edit}
use Rattle.session_model.specs.declared.edit.Edit.TheVariants.{Roll, Locate, Loop}
use Rattle.session_model.proofs.SessionVectors.{base, with_track, track, whole}
use Rattle.engine_model.specs.Journal.{Heard, Short}
use Rattle.engine_model.specs.Played.{Samples, samples_of, piece_samples, master_samples, master_file}
use Rattle.engine_model.specs.Plain.{plain, export_commands}
use Rattle.engine_model.proofs.Worked.{wait_then_locate, rolling}

-- a source of so many frames: 100, 200, and so on
counting : ℕ → Sounds
counting frames s i c = if nat_lt i frames then pos (suc i * 25600) else pos 0

played : ℕ → Session → List Edit → Samples
played frames session edits = samples_of (counting frames) session edits

-- what a 16-bit file has of samples
files : List ℤ → List ℤ
files samples = map (file_sample 16) samples

second_block_of_a_loop : files (piece_samples base (Loop 2 5 ∷ Roll ∷ []) (played 8 base (Loop 2 5 ∷ Roll ∷ [])) 0 1 1 0)
    ≡ pos 400 ∷ pos 500 ∷ pos 300 ∷ pos 400 ∷ []
unfolding files played counting track_sample
second_block_of_a_loop = refl

exported : master_file base (Locate 0 ∷ Roll ∷ []) (played 8 base (Locate 0 ∷ Roll ∷ [])) 2 (plain base 2 (export_commands 0))
    ≡ 0x52 ∷ 0x49 ∷ 0x46 ∷ 0x46 ∷ 0x34 ∷ 0 ∷ 0 ∷ 0 ∷ 0x57 ∷ 0x41 ∷ 0x56 ∷ 0x45
    ∷ 0x66 ∷ 0x6d ∷ 0x74 ∷ 0x20 ∷ 0x10 ∷ 0 ∷ 0 ∷ 0 ∷ 1 ∷ 0 ∷ 1 ∷ 0 ∷ 0x80 ∷ 0xbb ∷ 0 ∷ 0 ∷ 0 ∷ 0x77 ∷ 1 ∷ 0 ∷ 2 ∷ 0 ∷ 0x10 ∷ 0
    ∷ 0x64 ∷ 0x61 ∷ 0x74 ∷ 0x61 ∷ 0x10 ∷ 0 ∷ 0 ∷ 0
    ∷ 0x64 ∷ 0 ∷ 0xc8 ∷ 0 ∷ 0x2c ∷ 1 ∷ 0x90 ∷ 1 ∷ 0xf4 ∷ 1 ∷ 0x58 ∷ 2 ∷ 0xbc ∷ 2 ∷ 0x20 ∷ 3 ∷ []
unfolding played counting track_sample input_within canon header
exported = refl

-- the loop of 2 to 5
looped : files (master_samples base (Loop 2 5 ∷ Roll ∷ []) (played 8 base (Loop 2 5 ∷ Roll ∷ [])) 2 (rolling 2 2 1 0 (Heard 0) ∷ rolling 2 2 1 1 (Heard 0) ∷ []))
    ≡ pos 300 ∷ pos 400 ∷ pos 500 ∷ pos 300 ∷ pos 400 ∷ pos 500 ∷ pos 300 ∷ pos 400 ∷ []
unfolding files played counting track_sample input_within
looped = refl

-- a cycle that was short is silent, and the place goes on
short_after_first : files (master_samples (with_track (track 0 (record whole { long = 12 } ∷ []))) (Roll ∷ []) (played 12 (with_track (track 0 (record whole { long = 12 } ∷ []))) (Roll ∷ []))
    3 (rolling 1 1 0 0 (Heard 0) ∷ rolling 1 1 0 1 (Short 2) ∷ rolling 1 1 0 2 (Heard 0) ∷ []))
    ≡ pos 100 ∷ pos 200 ∷ pos 300 ∷ pos 400 ∷ pos 0 ∷ pos 0 ∷ pos 0 ∷ pos 0 ∷ pos 900 ∷ pos 1000 ∷ pos 1100 ∷ pos 1200 ∷ []
unfolding files played counting track_sample input_within
short_after_first = refl

-- the second entry begins at place 4; a cycle that was asked and not made is silent
located : files (master_samples base wait_then_locate (played 8 base wait_then_locate) 3 (rolling 1 1 0 0 (Heard 0) ∷ rolling 2 2 1 0 (Heard 0) ∷ []))
    ≡ pos 100 ∷ pos 200 ∷ pos 300 ∷ pos 400 ∷ pos 500 ∷ pos 600 ∷ pos 700 ∷ pos 800 ∷ pos 0 ∷ pos 0 ∷ pos 0 ∷ pos 0 ∷ []
unfolding files played counting track_sample input_within
located = refl
