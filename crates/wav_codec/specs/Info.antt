-- What the head of a file says, as the definitions of the sound have it.
use Rattle.std.specs.Prelude.{◌+◌, ◌*◌, ◌/◌, ◌^◌, ◌<◌, ◌≤◌}
use Rattle.sound_model.specs.Wav.{Form, Head, last_place}
use Rattle.wav_codec.specs.Fields.{IsForm}
use Rattle.wav_codec.specs.declared.info.WavInfo.{WavInfo}

abbrev pub form_read : WavInfo → Form
form_read info = record { channels = info.channels; rate = info.rate; bits = info.bits }

abbrev pub head_of : WavInfo → Head
head_of info = record { form = form_read info; data_at = info.data_at; frames = info.frames }

-- the bounds of a head that is read
pub record IsFound (info : WavInfo) : Type 0 where
  pub form : IsForm (form_read info)
  pub data_at : info.data_at ≤ last_place + 8
  pub bytes : info.frames * (info.channels * (info.bits / 8)) < 2 ^ 32
