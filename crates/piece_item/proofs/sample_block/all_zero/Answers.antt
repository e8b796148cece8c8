-- The list is silence where each chunk is, and what is left.
use Rattle.std.proofs.Common.{◌≡◌, ◌*◌, ◌-◌, ◌/◌, length, take, drop, sym, subst, arith}
use Rattle.std.proofs.lemmas.List.{length-drop, take_all}
use Rattle.piece_item.specs.Silence.{zeros}
use Rattle.piece_item.proofs.ZeroLemmas.{chunk_more, chunk_of, zero_all, zero_rest}
use Rattle.piece_item.proofs.sample_block.all_zero.Goals as goal

pub returns-then-not-chunk_is_zero : goal.returns-then-not-chunk_is_zero
returns-then-not-chunk_is_zero c = (λ no. absurd (grind (arith, no)), λ silent. absurd (grind (arith, c.if-not-chunk_is_zero.true, c.chunk_is_zero.ensures.1 (chunk_of c.args.samples.now c.loop-k.k c.loop-k-test.true silent))))

pub loop-k-preserved : goal.loop-k-preserved
loop-k-preserved c = chunk_more c.args.samples.now c.loop-k.k c.loop-k-test.true c.loop-k.invariant (c.chunk_is_zero.ensures.0 c.if-not-chunk_is_zero.false)

pub returns : goal.returns
returns c = let samples = c.args.samples.now in let n = 64 * (length samples / 64) in
    let front : take n samples ≡ zeros n = subst (λ k. take (64 * k) samples ≡ zeros (64 * k)) (omega (arith, c.loop-k-test.false, c.loop-k.auto.k-end)) c.loop-k.invariant in
    let rest : take (length samples - n) (drop n samples) ≡ drop n samples = take_all (length samples - n) (drop n samples) (omega (arith, length-drop n samples)) in (
      λ yes. zero_all samples n (omega arith) front (subst (λ l. l ≡ zeros (length l)) rest (c.chunk_is_zero-2.ensures.0 yes)),
      λ silent. c.chunk_is_zero-2.ensures.1 (subst (λ l. l ≡ zeros (length l)) (sym rest) (zero_rest samples n silent)),
    )
