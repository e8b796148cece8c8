-- The line of a number: the session that is made from it is exported, and the samples of its master are added up (own).
use Rattle.std.specs.Prelude.{ℕ, zero, suc, ℤ, pos, List}
use Rattle.sound_model.specs.Regions.{Sounds}
use Rattle.sound_model.specs.Wav.{canon, file_sound}
use Rattle.made_session.specs.Made.{made_session, tracks, regions}
use Rattle.made_session.specs.Tone.{tone}
use Rattle.engine_model.specs.Played.{master_form}
use Rattle.journal_laws.specs.Exports.{exported}
use Rattle.session_gen.specs.Line.{line_of}
use Rattle.session_gen.specs.Sums.{file_total}

-- what is heard of a made session's sources: of the one that it has, its file
abbrev pub sounds : Sounds
sounds zero i c = file_sound tone i c
sounds (suc n) i c = pos 0

-- the samples of its master, played from 0 over 256 cycles by the plain journal, at 24-bit scale
unfoldable pub master_samples : ℕ → List ℤ
master_samples n = exported sounds (made_session n) 256 0

-- the master's file
abbrev pub master : ℕ → List ℕ
master n = canon (master_form (made_session n)) (master_samples n)

-- its samples, of 16 bits each, added up
unfoldable pub master_sum : ℕ → ℤ
master_sum n = file_total (master_samples n)

abbrev pub gen_text : ℕ → List ℕ
gen_text n = line_of n (tracks n) (regions n) (master_sum n)
