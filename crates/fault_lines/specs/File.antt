-- The words that say why a WAV file, the file of a source or an input is refused.
use Rattle.std.specs.Prelude.{ℕ, List, ◌++◌, codes, decimal}
use Rattle.wav_codec.specs.declared.refusal.WavRefusal.{WavRefusal}
use Rattle.wav_codec.specs.declared.refusal.WavRefusal.TheVariants.{NotRiff, NotWave, HeadTooLong, NoData, NoFormat, FormatShort, Format, Channels, Bits, Rate, Align, Truncated}
use Rattle.audio_source.specs.declared.refusal.FileRefusal.{FileRefusal}
use Rattle.audio_source.specs.declared.refusal.FileRefusal.TheVariants as file
use Rattle.cycle_journal.specs.declared.status.InputRefusal.{InputRefusal}
use Rattle.cycle_journal.specs.declared.status.InputRefusal.TheVariants as input

-- two numbers with a space between them
abbrev pub two_numbers : ℕ → ℕ → List ℕ
two_numbers first second = decimal first ++ codes " " ++ decimal second

abbrev pub wav_words : WavRefusal → List ℕ
wav_words NotRiff = codes "not-riff"
wav_words NotWave = codes "not-wave"
wav_words (HeadTooLong place) = codes "head-too-long " ++ decimal place
wav_words NoData = codes "no-data"
wav_words NoFormat = codes "no-format"
wav_words (FormatShort size) = codes "format-short " ++ decimal size
wav_words (Format tag) = codes "format " ++ decimal tag
wav_words (Channels count) = codes "channels " ++ decimal count
wav_words (Bits count) = codes "bits " ++ decimal count
wav_words (Rate rate) = codes "rate " ++ decimal rate
wav_words (Align align) = codes "align " ++ decimal align
wav_words (Truncated want have) = codes "truncated " ++ two_numbers want have

abbrev pub file_words : FileRefusal → List ℕ
file_words file.Absent = codes "absent"
file_words (file.Wav why) = wav_words why
file_words (file.RateDiffers has want) = codes "rate-differs " ++ two_numbers has want
file_words (file.ChannelsDiffer has want) = codes "channels-differ " ++ two_numbers has want

abbrev pub input_words : InputRefusal → List ℕ
input_words (input.Wav why) = wav_words why
input_words (input.RateDiffers has want) = codes "rate-differs " ++ two_numbers has want
input_words (input.InputChannels has want) = codes "input-channels " ++ two_numbers has want
