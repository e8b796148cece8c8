-- The form of a written file as the definitions of the sound count it.
use Rattle.std.specs.Prelude.{ℕ, ◌*◌}
use Rattle.ses_units.specs.Bits.{bits_of}
use Rattle.sound_model.specs.Wav.{Form, align}
use Rattle.wav_codec.specs.declared.form.WavForm.{WavForm}

abbrev pub written_form : WavForm → Form
written_form form = record { channels = form.channels; rate = form.rate; bits = bits_of form.bits }

-- the bytes of so many frames
abbrev pub data_bytes : WavForm → ℕ → ℕ
data_bytes form frames = frames * align (written_form form)
