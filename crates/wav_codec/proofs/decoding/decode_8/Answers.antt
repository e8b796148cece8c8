use Rattle.std.proofs.Common.{ℕ, ◌*◌, ℤ, pos, drop, length, arith}
use Rattle.std.proofs.lemmas.List.FromFn.{fill_by_all}
use Rattle.sound_model.specs.Numbers.{sample_at}
use Rattle.wav_codec.proofs.decoding.decode_8.Goals as goal

pub returns : goal.returns
returns c =
    let f : ℕ → ℤ = λ i. sample_at 8 (drop (i * 1) c.args.bytes.now) in
    fill_by_all f c.loop-i.out (length c.args.out.now) (pos 0) (omega arith) (λ k h. c.loop-i.invariant k (omega arith))
