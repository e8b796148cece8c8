-- What a track records of a block of the input.
use Rattle.std.specs.Prelude.{◌≡◌, ℕ, ◌+◌, ◌*◌, ◌≤◌, ℤ, pos, nat_lt, if◌then◌else◌, List, slice_index_or}
use Rattle.session_model.specs.declared.session.Session.{Session}
use Rattle.session_model.specs.Formed.{channels_at}
use Rattle.session_model.specs.Frames.{interleaved}
use Rattle.engine_model.specs.Takes.{Input, first_channel, input_block}

-- the sample at a place, which is of channel c of a block of so many channels, silence where there is no such channel
abbrev pub sample_placed : ℕ → List ℤ → ℕ → ℕ → ℤ
sample_placed channels samples place c = if nat_lt c channels then slice_index_or samples place (pos 0) else pos 0

-- the sample of frame i and channel c of a block of so many channels, silence where there is none
abbrev pub sample_of : ℕ → List ℤ → ℕ → ℕ → ℤ
sample_of channels samples i c = sample_placed channels samples (i * channels + c) c

-- the channels that track t records, frame by frame
abbrev pub picked : Session → ℕ → ℕ → List ℤ → List ℤ
picked s t channels samples = interleaved (λ i k. sample_of channels samples i (first_channel s t + k)) (channels_at s t) 0 (s.block * channels_at s t)

-- Out of cycle c's block of an input of so many channels it is the track's block of that cycle.
abbrev pub TheInputIsPicked : Type 0
TheInputIsPicked = (s : Session) (input : Input) (t channels c : ℕ) (samples : List ℤ) → ((i k : ℕ) → channels ≤ k → input i k ≡ pos 0) →
    samples ≡ interleaved input channels (c * s.block) (s.block * channels) → picked s t channels samples ≡ input_block s input t c
