use Rattle.std.proofs.Common.{◌≡◌, ◌*◌, ◌/◌, ◌%◌, ◌++◌, length, replicate, ap, ◌∙◌}
use Rattle.std.proofs.Math.Nat.{mul_assoc}
use Rattle.sound_model.specs.Wav.{align, header, sound_bytes, canon}
use Rattle.wav_codec.proofs.Samples.{length-sound_bytes}
use Rattle.wav_codec.proofs.canon.canon_is_header_and_sound.Goals as goal

pub returns : goal.returns
unfolding canon
returns c form frames samples whole =
    let count : length (sound_bytes form.bits samples) ≡ frames * align form =
    length-sound_bytes form.bits samples ∙ ap (λ n. n * (form.bits / 8)) whole
    ∙ mul_assoc frames form.channels (form.bits / 8) in
    ap (λ n. header form n ++ sound_bytes form.bits samples ++ replicate (n % 2) 0) count
