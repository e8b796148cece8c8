-- Each sample that is read is in the input, and those that were written are the track's.
use Rattle.std.proofs.Common.{rules, ◌≡◌, ℕ, ◌+◌, ◌*◌, ◌/◌, ◌%◌, ◌<◌, ◌∙◌, length, ap, arith, sym, subst, FitsSigned, w32}
use Rattle.session_model.specs.Formed.{channels_at}
use Rattle.engine_model.specs.Takes.{first_channel}
use Rattle.track_capture.specs.Picked.{sample_of, sample_placed}
use Rattle.track_capture.proofs.PickLemmas.{from_zero, interleaved_filled, is_there, place_next, written_more}
use Rattle.track_capture.proofs.picking.pick.Goals as goal

pub returns : goal.returns
returns c = let s = c.args.session.now in let t = c.args.track in
    let f = λ (i k : ℕ). sample_of c.args.channels c.args.input.now i (first_channel s t + k) in
    let long : length c.loop-v.out ≡ s.block * channels_at s t = c.loop-v.auto.out ∙ c.requires.out in
    interleaved_filled f (channels_at s t) 0 (s.block * channels_at s t) c.loop-v.out long (λ k lt. c.loop-v.invariant.picked k (omega (arith, lt, long, c.loop-v-test.false)))

pub sample-requires : goal.sample-requires
sample-requires c near = let s = c.args.session.now in let w = channels_at s c.args.track in let at = c.loop-v.invariant in let f = first_channel s c.args.track in
    let long : length c.loop-v.out ≡ s.block * w = c.loop-v.auto.out ∙ c.requires.out in
    let some : 0 < w = subst (λ n. 0 < n) c.width-width.ensures.channels c.width-width.ensures.some in
    subst (λ n. n < length c.args.input.now) (sym at.place) (is_there s.block c.args.channels w f c.loop-v.v-index (length c.args.input.now) c.requires.input some
    (omega (arith, c.loop-v-test.true, long)) (omega (arith, near, at.channel, c.first-first.ensures)))

pub loop-v-preserved : goal.loop-v-preserved
loop-v-preserved c = let s = c.args.session.now in let w = channels_at s c.args.track in let at = c.loop-v.invariant in let f = first_channel s c.args.track in let k = c.loop-v.v-index in
    let some : 0 < w = subst (λ n. 0 < n) c.width-width.ensures.channels c.width-width.ensures.some in
    let fits : FitsSigned w32 c.sample.result = search rules in
    let channel : c.first-first.result + c.loop-v.at.1 ≡ f + k % w = omega (arith, at.channel, c.first-first.ensures) in
    let there : c.sample.result ≡ sample_of c.args.channels c.args.input.now (0 + k / w) (f + k % w) = c.sample.ensures
    ∙ ap (λ n. sample_placed c.args.channels c.args.input.now n (c.first-first.result + c.loop-v.at.1)) at.place
    ∙ ap (sample_placed c.args.channels c.args.input.now (k / w * c.args.channels + (f + k % w))) channel
    ∙ ap (λ n. sample_of c.args.channels c.args.input.now n (f + k % w)) (sym (from_zero (k / w))) in
    let next = place_next k w f c.args.channels c.loop-v.at.0 c.loop-v.at.1 c.next-at.result some at.place at.channel
    (λ near. c.next-at.ensures.within (omega (arith, near, c.width-width.ensures.channels))) (λ last. c.next-at.ensures.over (last ∙ sym c.width-width.ensures.channels)) in record {
      picked = written_more (λ i. sample_of c.args.channels c.args.input.now (0 + i / w) (f + i % w)) c.loop-v.out k c.sample.result (omega (arith, c.loop-v-test.true)) fits there at.picked;
      place = next.0;
      channel = next.1;
    }
