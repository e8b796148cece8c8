-- What contracts see of the input of a run, and how far it was read.
use Rattle.std.specs.Prelude.{◌≡◌, ℕ, suc, ◌-◌, ◌*◌, ◌<◌, ℤ, List, drop, min}
use Rattle.sound_model.specs.Wav.{align}
use Rattle.ses_io.specs.Outside.{SourceOutside}
use Rattle.session_model.specs.Frames.{interleaved}
use Rattle.input_blocks.specs.Rest.{StreamForm, rest_sound}

pub record InputState (I : Type 0) : Type 0 where
  -- what the data are read from
  pub input : I
  pub stream : StreamForm
  -- the frames of a block
  pub block : ℕ
  -- the frames that were asked of the input so far, never more than the stream has
  pub done : ℕ
  -- the samples of the block that was read last, and silence before the first
  pub samples : List ℤ

-- the bytes that the input had left before its first block, and how many blocks were read since
pub record SoFar : Type 0 where
  pub start : List ℕ
  pub blocks : ℕ

-- nothing was read yet
abbrev pub from_here : {I : Type 0} → SourceOutside I → I → SoFar
from_here outside input = record { start = outside.left input; blocks = 0 }

abbrev pub one_more : SoFar → SoFar
one_more at = record at { blocks = suc at.blocks }

-- The blocks that were read are all that was taken from the input: their frames, as far as the stream has them.
pub record IsReadTo {I : Type 0} (outside : SourceOutside I) (at : SoFar) (s : InputState I) : Type 0 where
  pub done : s.done ≡ min (at.blocks * s.block) s.stream.frames
  pub left : outside.tells → outside.left s.input ≡ drop (s.done * align s.stream.form) at.start

-- the samples of the block that comes next, by what the input had left at the start
abbrev pub next_block : {I : Type 0} → SoFar → InputState I → List ℤ
next_block at s = let channels = s.stream.form.channels in
    interleaved (rest_sound s.stream at.start) channels (at.blocks * s.block) (s.block * channels)

-- the bytes that the next block asks of the input
abbrev pub bytes_due : {I : Type 0} → InputState I → ℕ
bytes_due s = min (s.stream.frames - s.done) s.block * align s.stream.form

-- this input lost its first bytes, fewer than so many
abbrev pub LosesFewer : ℕ → List ℕ → List ℕ → Type 0
LosesFewer most before after = (n : ℕ) × (n < most) × (after ≡ drop n before)

-- A read failed. What it had taken of the next block is lost: less than the block.
pub record IsCutShort {I : Type 0} (outside : SourceOutside I) (old new : InputState I) : Type 0 where
  -- some was asked
  pub asked : 0 < bytes_due old
  pub lost : outside.tells → LosesFewer (bytes_due old) (outside.left old.input) (outside.left new.input)
  pub done : new.done ≡ old.done
  pub samples : new.samples ≡ old.samples
