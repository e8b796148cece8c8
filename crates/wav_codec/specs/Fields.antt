-- The fields of a `fmt ` chunk, and the form that they give.
use Rattle.std.specs.Prelude.{◌≡◌, ◌⊎◌, ℕ, ◌≤◌, ◌==◌, ◌&&◌, nat_le, Bool, List, take, drop, Result}
use Rattle.sound_model.specs.Numbers.{number}
use Rattle.sound_model.specs.Wav.{Form, Refusal, begins_at, pcm, pcm_subformat, form_of}
use Rattle.wav_codec.specs.declared.fields.Fields.{Fields}

-- the fields of the bytes of a `fmt ` chunk, before its extension is given
abbrev pub fields_at : List ℕ → Fields
fields_at bytes = record {
  tag = number 2 bytes;
  pcm = number 2 bytes == pcm;
  channels = number 2 (drop 2 bytes);
  rate = number 4 (drop 4 bytes);
  block = number 2 (drop 12 bytes);
  bits = number 2 (drop 14 bytes);
}

-- the form of these fields, or the first of them that isn't read
abbrev pub form_given : Fields → Result Form Refusal
form_given f = form_of f.pcm f.tag f.channels f.rate f.block f.bits

-- the first 16 bytes of an extension that is PCM's: 22 bytes or more, and half of the subformat
abbrev pub begins_pcm_extension : List ℕ → Bool
begins_pcm_extension bytes = nat_le 22 (number 2 bytes) && begins_at bytes 8 (take 8 pcm_subformat)

-- these fields, where the extension tells whether they are PCM's
abbrev pub with_pcm : Bool → Fields → Fields
with_pcm told fields = record fields { pcm = told }

-- a form that is read
pub record IsForm (form : Form) : Type 0 where
  pub one_channel : 1 ≤ form.channels
  pub eight_channels : form.channels ≤ 8
  pub slowest : 8000 ≤ form.rate
  pub fastest : form.rate ≤ 192000
  pub bits : (form.bits ≡ 8) ⊎ ((form.bits ≡ 16) ⊎ (form.bits ≡ 24))
