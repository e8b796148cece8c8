use Rattle.std.proofs.Common.{ℕ, ◌*◌, ℤ, pos, drop, length, ap, ◌∙◌, arith, rules, FitsSigned, w32}
use Rattle.std.proofs.lemmas.List.FromFn.{fill_by_all}
use Rattle.sound_model.specs.Numbers.{sample_at}
use Rattle.wav_codec.proofs.Samples.{piece_at, sample_of_three, written_more}
use Rattle.wav_codec.proofs.fours.decode_24_singly.Goals as goal

pub loop-i-preserved : goal.loop-i-preserved
loop-i-preserved c =
    let f : ℕ → ℤ = λ i. sample_at 24 (drop (i * 3) c.args.bytes.now) in
    let fits : FitsSigned w32 c.sample_24.result = search rules in
    written_more f c.loop-i.out c.loop-i.i c.sample_24.result (omega arith) fits
    (c.sample_24.ensures ∙ ap (sample_at 24) (piece_at 3 c.args.bytes.now c.as_chunks.result.0.now c.loop-i.i c.as_chunks.ensures.front c.loop-i-test.true)
    ∙ sample_of_three (drop (c.loop-i.i * 3) c.args.bytes.now))
    c.loop-i.invariant

pub returns : goal.returns
returns c =
    let f : ℕ → ℤ = λ i. sample_at 24 (drop (i * 3) c.args.bytes.now) in
    fill_by_all f c.loop-i.out (length c.args.out.now) (pos 0) (omega arith) (λ k h. c.loop-i.invariant k (omega arith))
