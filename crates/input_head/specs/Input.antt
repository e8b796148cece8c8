-- What an input is for a session: none, one with this head, or one that isn't played with (own). Channels count from 0.
use Rattle.std.specs.Prelude.{ℕ, ◌+◌, max, false, not, ◌==◌, nat_lt, if◌then◌else◌, fold, List, [], ◌∷◌, Option, Some, None, Result, Ok, Err}
use Rattle.std.specs.Option.{option_map_or}
use Rattle.sound_model.specs.Wav.{Head, Refusal, head}
use Rattle.session_model.specs.declared.session.Session.{Session}
use Rattle.session_model.specs.declared.track.Track.{Track}
use Rattle.session_model.specs.Formed.{channels_at}
use Rattle.wav_codec.specs.Refusal.{refusal_of}
use Rattle.cycle_journal.specs.declared.status.InputRefusal.{InputRefusal}
use Rattle.cycle_journal.specs.declared.status.InputRefusal.TheVariants as input

pub data InputWrong : Type 0 where
  -- its head isn't read
  NotRead : Refusal → InputWrong
  -- the frames per second that it has, and those of the session
  OtherRate : ℕ → ℕ → InputWrong
  -- the channels that it has, and those that it has to have
  FewerChannels : ℕ → ℕ → InputWrong

-- a refusal that is answered
abbrev pub wrong_of : InputRefusal → InputWrong
wrong_of (input.Wav e) = NotRead (refusal_of e)
wrong_of (input.RateDiffers has want) = OtherRate has want
wrong_of (input.InputChannels has want) = FewerChannels has want

infixl 10 ◌>>=◌
abbrev pub ◌>>=◌ : {A B : Type 0} → Result A InputWrong → (A → Result B InputWrong) → Result B InputWrong
(Ok x) >>= f = f x
(Err e) >>= f = Err e

-- ---- the channels

-- the channels of the input up to the last that a track takes, which has as many as its route
abbrev pub taken_by : Session → Track → ℕ
taken_by s k = option_map_or (λ first. first + channels_at s k.route) k.input 0

-- the channels that the input has to have: the most that a track takes, 0 where none has an input
unfoldable pub wanted_channels : Session → ℕ
wanted_channels s = fold (λ most k. max most (taken_by s k)) 0 s.tracks.items

-- ---- the head

-- a head that was read
abbrev pub read : Result Head Refusal → Result Head InputWrong
read (Ok h) = Ok h
read (Err e) = Err (NotRead e)

-- a head, where it has the session's rate and channels for its tracks
abbrev pub fitting : Session → Head → Result Head InputWrong
fitting s h = if not (h.form.rate == s.rate) then Err (OtherRate h.form.rate s.rate)
    else (if nat_lt h.form.channels (wanted_channels s) then Err (FewerChannels h.form.channels (wanted_channels s)) else Ok h)

-- The head of an input of these bytes, or why it isn't played with: the first thing wrong. No byte is no input.
-- The size of an input isn't told, so it may end within its data.
abbrev pub input_head : Session → List ℕ → Result (Option Head) InputWrong
input_head s [] = Ok None
input_head s (byte ∷ bytes) = do
  h ← read (head false (byte ∷ bytes))
  fits ← fitting s h
  Ok (Some fits)
