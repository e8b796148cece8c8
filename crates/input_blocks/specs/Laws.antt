-- The sound of a file by what follows its head alone.
use Rattle.std.specs.Prelude.{◌≡◌, ℕ, List, drop}
use Rattle.sound_model.specs.Wav.{Head, sound}
use Rattle.input_blocks.specs.Rest.{rest_sound}

-- the sound of a whole file with this head is that of the bytes behind the head
abbrev pub SoundOfTheRest : Type 0
SoundOfTheRest = (h : Head) (b : List ℕ) (i c : ℕ) → sound h b i c ≡ rest_sound (record { form = h.form; frames = h.frames }) (drop h.data_at b) i c
