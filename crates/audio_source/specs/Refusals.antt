-- Why a source's file isn't opened (own), and the head of one that is.
use Rattle.std.specs.Prelude.{ℕ, true, not, ◌==◌, if◌then◌else◌, List, Option, Some, None, Result, Ok, Err}
use Rattle.sound_model.specs.Wav.{Head, Refusal, head}
use Rattle.wav_codec.specs.Refusal.{refusal_of}
use Rattle.audio_source.specs.declared.refusal.FileRefusal.{FileRefusal}
use Rattle.audio_source.specs.declared.refusal.FileRefusal.TheVariants as file

pub data SourceRefusal : Type 0 where
  -- there is no such file
  NoFile : SourceRefusal
  -- its head isn't read
  NotRead : Refusal → SourceRefusal
  -- the frames per second that it has, and those of the session
  OtherRate : ℕ → ℕ → SourceRefusal
  -- the channels that it has, and those of the source
  OtherChannels : ℕ → ℕ → SourceRefusal

-- a head, where it has this rate and these channels
abbrev pub fitting : ℕ → ℕ → Head → Result Head SourceRefusal
fitting rate channels h =
    if not (h.form.rate == rate) then Err (OtherRate h.form.rate rate)
    else (if not (h.form.channels == channels) then Err (OtherChannels h.form.channels channels) else Ok h)

abbrev pub fitting_read : ℕ → ℕ → Result Head Refusal → Result Head SourceRefusal
fitting_read rate channels (Ok h) = fitting rate channels h
fitting_read rate channels (Err e) = Err (NotRead e)

-- the head of a source's file, whose size is told, or why it isn't opened
abbrev pub source_head : ℕ → ℕ → Option (List ℕ) → Result Head SourceRefusal
source_head rate channels None = Err NoFile
source_head rate channels (Some b) = fitting_read rate channels (head true b)

-- a refusal that is answered
abbrev pub why_of : FileRefusal → SourceRefusal
why_of file.Absent = NoFile
why_of (file.Wav e) = NotRead (refusal_of e)
why_of (file.RateDiffers has want) = OtherRate has want
why_of (file.ChannelsDiffer has want) = OtherChannels has want
