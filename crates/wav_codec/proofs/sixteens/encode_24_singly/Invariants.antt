use Rattle.std.proofs.Common.{◌≡◌, ◌*◌, take}
use Rattle.sound_model.specs.Wav.{sound_bytes}
use Rattle.wav_codec.proofs.sixteens.encode_24_singly.Given as goal

-- the bytes of the samples so far
abbrev pub invariant-loop-i : goal.invariant-loop-i
invariant-loop-i l = take (3 * l.i) l.out ≡ sound_bytes 24 (take l.i l.samples)
