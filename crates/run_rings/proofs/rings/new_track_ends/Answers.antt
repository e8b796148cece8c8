use Rattle.std.proofs.Common.{◌≡◌, ◌*◌, sym, ap, arith, ◌∙◌}
use Rattle.std.specs.Prelude.{slice_index_or}
use Rattle.process_ends.specs.Ends.{block_of}
use Rattle.run_rings.proofs.RingLemmas.{channels_here, pushed}
use Rattle.run_rings.proofs.rings.new_track_ends.Goals as goal

-- src/rings.rt
pub loop-t-preserved : goal.loop-t-preserved
loop-t-preserved c = let s = c.args.s.now in let l = c.loop-t in let q = c.index-routes-t.result in
    let samples : s.block * c.from.result ≡ block_of s l.t = ap (λ n. s.block * n) (c.from.ensures ∙ ap (λ r. r.channels) (sym c.index-routes-t.is) ∙ sym (channels_here s l.t q
    (omega (arith, c.loop-t-test.true, l.auto.t-end, c.len-t-end.ensures.len, c.requires.formed.limits.master)) (c.index-routes-t.is ∙ ap (λ xs. slice_index_or xs l.t q) c.as_slice-routes.ensures.items))) in
    record {
      items = pushed s l.t (s.block * c.from.result) l.ends.sends c.push.new.self l.ends.plays c.push-in-loop-t.new.self c.in_ok-send.send c.in_ok-send.play l.invariant.items samples c.in_ok-send.ensures
          c.push.ensures c.push-in-loop-t.ensures;
      takes = pushed s l.t (s.block * c.from.result) l.ends.captures c.push-in-loop-t-2.new.self l.ends.flushes c.push-in-loop-t-3.new.self c.in_ok-capture.capture c.in_ok-capture.flush l.invariant.takes samples
          c.in_ok-capture.ensures c.push-in-loop-t-2.ensures c.push-in-loop-t-3.ensures;
      room = (
        ap (λ k. k.room) c.push.ensures ∙ l.invariant.room.0,
        ap (λ k. k.room) c.push-in-loop-t.ensures ∙ l.invariant.room.1,
        ap (λ k. k.room) c.push-in-loop-t-2.ensures ∙ l.invariant.room.2,
        ap (λ k. k.room) c.push-in-loop-t-3.ensures ∙ l.invariant.room.3,
      );
    }
