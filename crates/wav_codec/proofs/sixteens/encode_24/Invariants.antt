use Rattle.std.proofs.Common.{◌≡◌, ◌*◌, length, take}
use Rattle.sound_model.specs.Wav.{sound_bytes}
use Rattle.wav_codec.proofs.sixteens.encode_24.Given as goal

-- the bytes of the samples so far
abbrev pub invariant-loop-i : goal.invariant-loop-i
invariant-loop-i l = (take (48 * l.i) l.out ≡ sound_bytes 24 (take (16 * l.i) l.samples)) × (length l.out ≡ length l.samples * 3)
