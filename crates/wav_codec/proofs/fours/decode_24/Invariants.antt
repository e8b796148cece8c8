use Rattle.std.proofs.Common.{◌≡◌, ◌*◌, take}
use Rattle.wav_codec.specs.Samples.{samples_of}
use Rattle.wav_codec.proofs.fours.decode_24.Given as goal

-- the samples so far
abbrev pub invariant-loop-i : goal.invariant-loop-i
invariant-loop-i l = take (4 * l.i) l.out ≡ samples_of 24 (4 * l.i) l.bytes
