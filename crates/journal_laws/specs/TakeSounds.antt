-- What a take holds. Frames and channels count from 0.
use Rattle.std.specs.Prelude.{◌≡◌, ℕ, ◌+◌, ◌*◌, ◌/◌, ℤ, pos, List}
use Rattle.session_model.specs.declared.session.Session.{Session}
use Rattle.session_model.specs.Formed.{channels_at}
use Rattle.session_model.specs.Frames.{interleaved}
use Rattle.engine_model.specs.Journal.{Take, Off, Taken, Lost, Entry}
use Rattle.engine_model.specs.Takes.{Input, first_channel, take_samples}
use Rattle.journal_laws.specs.TakeRuns.{take_at, IsTakeOf}

-- a sample where its block was taken, 0 where it was lost
abbrev pub unless_lost : Take → ℤ → ℤ
unless_lost Off sample = pos 0
unless_lost (Taken n i) sample = sample
unless_lost (Lost n i head) sample = pos 0

-- channel k of track t at frame i of a take that begins at an entry: what the input had in that frame of the run, in the track's channel
abbrev pub recorded_sample : Session → Input → ℕ → ℕ → List Entry → ℕ → ℕ → ℤ
recorded_sample session input t first journal i k = unless_lost (take_at t (first + i / session.block) journal) (input (first * session.block + i) (first_channel session t + k))

-- A take holds the input of its run, frame by frame: as many blocks as it has entries, those that were lost as zeros.
abbrev pub ATakeHoldsItsInput : Type 0
ATakeHoldsItsInput = (session : Session) (input : Input) (t n : ℕ) (journal : List Entry) → (run : IsTakeOf t n journal) →
    take_samples session input t n journal ≡ interleaved (recorded_sample session input t run.first journal) (channels_at session t) 0 (run.many * (session.block * channels_at session t))
