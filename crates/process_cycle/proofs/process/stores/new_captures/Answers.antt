use Rattle.std.proofs.Common.{◌≡◌, ◌*◌, ◌+◌, [], length, slice_index_or, ap, ◌∙◌, sym, subst, arith}
use Rattle.std.specs.Prelude.{slice_get}
use Rattle.std.proofs.lemmas.List.{length_push}
use Rattle.track_capture.specs.Counted.{Counts, HasBox}
use Rattle.process_ends.specs.Ends.{block_of}
use Rattle.process_cycle.proofs.NewLemmas.{channels_here, each_and_last}
use Rattle.process_cycle.proofs.process.stores.new_captures.Goals as goal

pub loop-t-preserved : goal.loop-t-preserved
loop-t-preserved c = let s = c.args.s.now in let l = c.loop-t in let x = c.in_ok-new.field-0 in let q = c.index-routes-t.result in
    let samples : s.block * c.from.result ≡ block_of s l.t = ap (λ n. s.block * n) (c.from.ensures ∙ ap (λ r. r.channels) (sym c.index-routes-t.is) ∙ sym (channels_here s l.t q
    (omega (arith, c.loop-t-test.true, l.auto.t-end, c.len-t-end.ensures.len, c.requires.formed.limits.master)) (c.index-routes-t.is ∙ ap (λ xs. slice_index_or xs l.t q) c.as_slice-routes.ensures.items))) in
    record {
      count = ap length c.in_ok-push.ensures.items ∙ length_push l.captures.items x ∙ ap (λ n. n + 1) l.invariant.count;
      each = λ t k there. each_and_last (λ u y. Counts [] u y × HasBox (block_of s u) y) l.captures.items x l.invariant.each
          (c.in_ok-new.ensures.counts (length l.captures.items), subst (λ u. HasBox (block_of s u) x) (sym l.invariant.count) (subst (λ n. HasBox n x) samples c.in_ok-new.ensures.husk))
          t k (ap (λ xs. slice_get xs t) (sym c.in_ok-push.ensures.items) ∙ there);
    }
