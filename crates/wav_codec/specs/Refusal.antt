-- A refusal as the definitions of the sound name it.
use Rattle.std.specs.Prelude.{◌≡◌, Result, Ok, Err}
use Rattle.sound_model.specs.Wav.{Refusal, NotRiff, NotWave, HeadTooLong, NoData, NoFormat, FormatShort, Format, Channels, Bits, Rate, Align, Truncated}
use Rattle.wav_codec.specs.declared.refusal.WavRefusal.{WavRefusal}
use Rattle.wav_codec.specs.declared.refusal.WavRefusal.TheVariants as wav

abbrev pub refusal_of : WavRefusal → Refusal
refusal_of wav.NotRiff = NotRiff
refusal_of wav.NotWave = NotWave
refusal_of (wav.HeadTooLong place) = HeadTooLong place
refusal_of wav.NoData = NoData
refusal_of wav.NoFormat = NoFormat
refusal_of (wav.FormatShort bytes) = FormatShort bytes
refusal_of (wav.Format tag) = Format tag
refusal_of (wav.Channels channels) = Channels channels
refusal_of (wav.Bits bits) = Bits bits
refusal_of (wav.Rate rate) = Rate rate
refusal_of (wav.Align block) = Align block
refusal_of (wav.Truncated want have) = Truncated want have

-- what a call answered is what the definitions give
abbrev pub Gives : {A : Type 0} → Result A WavRefusal → Result A Refusal → Type 0
Gives (Ok x) given = given ≡ Ok x
Gives (Err e) given = given ≡ Err (refusal_of e)
