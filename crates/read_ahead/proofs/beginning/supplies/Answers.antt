use Rattle.std.proofs.Common.{◌≡◌, ◌*◌, ◌∷◌, [], ℕ, ℤ, pos, List, ◌∙◌, refl, sym, ap, subst, length, length-append, arith, false}
use Rattle.std.specs.Prelude.{slice_get, Some}
use Rattle.std.proofs.lemmas.List.{length-replicate}
use Rattle.session_model.specs.declared.session.Session.{Session}
use Rattle.session_model.specs.declared.route.Route.{Route}
use Rattle.session_model.specs.Formed.{channels_at}
use Rattle.session_model.specs.Valid.{IsValid}
use Rattle.piece_item.specs.declared.item.Item.{Item}
use Rattle.track_render.proofs.TrackLemmas.{item_at}
use Rattle.read_ahead.specs.declared.supply.TrackSupply.{TrackSupply}
use Rattle.read_ahead.proofs.RoomLemmas.{channels_read}
use Rattle.read_ahead.proofs.FirstLemmas.{IsFirst, one_more}
use Rattle.read_ahead.proofs.beginning.supplies.Goals as goal

pub loop-track-preserved : goal.loop-track-preserved
loop-track-preserved c = let so_far = c.loop-track.invariant in let items = c.in_ok-push.ensures.items in let many = so_far.many in let t = c.loop-track.track in
    let s = c.session-session.result.now in let same = c.session-session.ensures.session in let valid : IsValid s = subst IsValid (sym same) c.session-session.ensures.seen.valid in
    let q = c.index-as_slice-track.result in
    let there = item_at s.routes.items c.as_slice.result.now t q c.as_slice.ensures.items
    (omega (arith, ap length c.as_slice.ensures.items, c.loop-track-test.true, c.len-track-end.ensures.len, valid.formed.limits.master)) c.index-as_slice-track.is in
    let wide : c.from.result ≡ channels_at s t = c.from.ensures ∙ sym (ap (λ (r : Route). r.channels) c.index-as_slice-track.is) ∙ sym (channels_read s t q there) in
    let x : TrackSupply = record { progress = c.first.result; spare = Some c.in_ok-spare.spare; made = false } in record {
      many = let long = length-append c.loop-track.supplies.items (x ∷ []) in omega (arith, ap length items);
      each = subst (λ (ps : List TrackSupply). (t : ℕ) (p : TrackSupply) → slice_get ps t ≡ Some p → IsFirst c.args.e.now t p) (sym items)
          (one_more c.args.e.now c.loop-track.supplies.items t x so_far.many (
            c.first.ensures ∙ (λ i. record { generation = (c.transport.ensures.transport i).generation; touched = c.touched.ensures i; fresh = 0; far = 0; mark = 0 }),
            ap (λ (z : Item). length z.samples.items) c.in_ok-spare.ensures ∙ length-replicate {A = ℤ} (s.block * c.from.result) (pos 0)
                ∙ ap (λ n. s.block * n) wide ∙ ap (λ (z : Session). z.block * channels_at z t) same,
            refl,
          )
          so_far.each);
    }

pub returns-clause-first : goal.returns-clause-first
returns-clause-first c = let so_far = c.loop-track.invariant in let many = so_far.many in record {
  many = omega (arith, many, c.loop-track-test.false, c.loop-track.auto.track-end, c.len-track-end.ensures.len, ap (λ (z : Session). length z.tracks.items) c.session-session.ensures.session);
  each = so_far.each;
}
