-- What is filled so far.
use Rattle.std.proofs.Common.{◌≡◌, ℕ, ◌+◌, ◌<◌, ◌/◌, ◌%◌, get_or}
use Rattle.std.specs.Prelude.{pos}
use Rattle.session_model.specs.Frames.{sample_of, IsSample}
use Rattle.session_model.specs.MemFrames.{frames_of}
use Rattle.session_model.proofs.mem_sound.MemSound.fill.Given as goal

abbrev pub invariant-loop-k : goal.invariant-loop-k
invariant-loop-k l = (k : ℕ) → k < l.k → (get_or l.out k (pos 0) ≡ sample_of (frames_of l.self) (l.from + k / l.self.channels) (k % l.self.channels)) × IsSample (get_or l.out k (pos 0))
