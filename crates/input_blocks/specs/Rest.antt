-- The sound of a stream whose head was read before (own). Frames and channels count from 0.
use Rattle.std.specs.Prelude.{ℕ, ℤ, List, Option, Some, None}
use Rattle.sound_model.specs.Wav.{Form, sound}
use Rattle.wav_codec.specs.Info.{form_read}
use Rattle.wav_codec.specs.declared.info.WavInfo.{WavInfo}

-- what was told of the data of a stream: their form, and how many whole frames there are
pub record StreamForm : Type 0 where
  pub form : Form
  pub frames : ℕ

abbrev pub stream_of : WavInfo → StreamForm
stream_of info = record { form = form_read info; frames = info.frames }

-- no input is a stream of one channel that has no frames
abbrev pub stream_told : Option WavInfo → StreamForm
stream_told None = record { form = record { channels = 1; rate = 8000; bits = 8 }; frames = 0 }
stream_told (Some info) = stream_of info

-- the sample of frame i and channel c of the data that begin with these bytes; a frame that isn't whole, or isn't there, is silence
abbrev pub rest_sound : StreamForm → List ℕ → ℕ → ℕ → ℤ
rest_sound stream left = sound (record { form = stream.form; data_at = 0; frames = stream.frames }) left
