use Rattle.std.proofs.Common.{◌≡◌, ℕ, ◌*◌, ◌<◌, pos, drop, get_or}
use Rattle.sound_model.specs.Numbers.{sample_at}
use Rattle.wav_codec.proofs.fours.decode_24_singly.Given as goal

-- the samples so far
abbrev pub invariant-loop-i : goal.invariant-loop-i
invariant-loop-i l = (k : ℕ) → k < l.i → get_or l.out k (pos 0) ≡ sample_at 24 (drop (k * 3) l.bytes)
