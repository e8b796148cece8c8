-- The bytes of the master's file, piece by piece: its header, the block of an entry, silence, and a pad byte where they are odd in number.
use Rattle.std.specs.Prelude.{ℕ, ◌-◌, ◌*◌, ◌/◌, ◌%◌, pos, List, ◌++◌, replicate}
use Rattle.sound_model.specs.Wav.{header, sound_bytes}
use Rattle.ses_units.specs.Bits.{bits_of}
use Rattle.session_model.specs.declared.session.Session.{Session}
use Rattle.session_model.specs.declared.edit.Edit.{Edit}
use Rattle.engine_model.specs.Journal.{Entry}
use Rattle.engine_model.specs.Played.{Samples, block, master_channels, master_form}

-- how many samples a block has
abbrev pub block_samples : Session → ℕ
block_samples s = s.block * master_channels s

-- how many bytes of samples so many blocks have
abbrev pub data_bytes : Session → ℕ → ℕ
data_bytes s blocks = blocks * (block_samples s) * (bits_of s.bits / 8)

-- the header of a file of so many blocks
abbrev pub head_bytes : Session → ℕ → List ℕ
head_bytes s blocks = header (master_form s) (data_bytes s blocks)

-- the block of an entry
abbrev pub entry_bytes : Session → List Edit → Samples → Entry → List ℕ
entry_bytes s edits samples e = sound_bytes (bits_of s.bits) (block s edits samples e)

-- so many blocks of silence
abbrev pub silent_bytes : Session → ℕ → List ℕ
silent_bytes s blocks = sound_bytes (bits_of s.bits) (replicate (blocks * block_samples s) (pos 0))

-- what follows the samples of so many blocks
abbrev pub pad_bytes : Session → ℕ → List ℕ
pad_bytes s blocks = replicate (data_bytes s blocks % 2) 0

-- the end of a file of so many blocks, of which these were made
abbrev pub end_bytes : Session → ℕ → ℕ → List ℕ
end_bytes s blocks made = silent_bytes s (blocks - made) ++ pad_bytes s blocks
