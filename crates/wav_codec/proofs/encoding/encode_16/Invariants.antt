use Rattle.std.proofs.Common.{◌≡◌, ◌*◌, take}
use Rattle.sound_model.specs.Wav.{sound_bytes}
use Rattle.wav_codec.proofs.encoding.encode_16.Given as goal

-- the bytes of the samples so far
abbrev pub invariant-loop-i : goal.invariant-loop-i
invariant-loop-i l = take (2 * l.i) l.out ≡ sound_bytes 16 (take l.i l.samples)
