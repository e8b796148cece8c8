-- The bytes of a master's file, as they are held against a session.
use Rattle.std.specs.Prelude.{ℕ, ◌+◌, ◌-◌, ◌%◌, Bool, ◌&&◌, ◌==◌, List, length, take, drop}
use Rattle.std.specs.Str.{bytes_eq}
use Rattle.session_model.specs.declared.session.Session.{Session}
use Rattle.master_blocks.specs.Bytes.{head_bytes, pad_bytes, data_bytes, silent_bytes}

-- so many bytes from a place on, as far as there are some
abbrev pub part_at : ℕ → ℕ → List ℕ → List ℕ
part_at place many bytes = take many (drop place bytes)

-- these bytes stand at a place
abbrev pub stand_at : ℕ → List ℕ → List ℕ → Bool
stand_at place piece bytes = bytes_eq (part_at place (length piece) bytes) piece

-- the place of a block, counted from 0, behind the header of 44 bytes
abbrev pub block_place : Session → ℕ → ℕ
block_place s c = 44 + data_bytes s c

-- the file is a WAV file of the session's form with so many blocks, whatever sounds in them: by header, length and pad byte
abbrev pub has_form : Session → ℕ → List ℕ → Bool
has_form s blocks file = length file == 44 + data_bytes s blocks + data_bytes s blocks % 2
    && stand_at 0 (head_bytes s blocks) file && stand_at (44 + data_bytes s blocks) (pad_bytes s blocks) file

-- from a block on it is silent
abbrev pub is_silent_from : Session → ℕ → ℕ → List ℕ → Bool
is_silent_from s made blocks file = stand_at (block_place s made) (silent_bytes s (blocks - made)) file
