use Rattle.std.proofs.Common.{rules, ◌≡◌, ◌∷◌, [], ◌∙◌, List, length, get_or, refl, sym, ap, subst, arith, length-append, false}
use Rattle.std.specs.Prelude.{slice_get, Some}
use Rattle.session_model.specs.declared.route.Route.{Route}
use Rattle.piece_item.specs.declared.take_block.TakeBlock.{TakeBlock}
use Rattle.capture_drain.specs.declared.track.TrackDrain.{TrackDrain}
use Rattle.capture_drain.proofs.FirstLemmas.{IsFirstOf, one_more, block_is}
use Rattle.capture_drain.proofs.drain.tracks_of.Goals as goal

pub loop-t-preserved : goal.loop-t-preserved
loop-t-preserved c = let so = c.loop-t.invariant in let s = c.args.s.now in let items = c.in_ok-push.ensures.items in let many = so.many in
    let x : TrackDrain = record { husk = Some c.in_ok-husk.husk; ended = false } in
    let q = c.index-routes-t.result in
    record {
      within = search rules;
      routes = so.routes;
      many = let long = length-append c.loop-t.tracks.items (x ∷ []) in omega (arith, ap length items);
      each = subst (λ (ks : List TrackDrain). (t : _) (k : TrackDrain) → slice_get ks t ≡ Some k → IsFirstOf s t k) (sym items)
          (one_more s c.loop-t.tracks.items c.loop-t.t x so.many (
            ap (λ (b : TakeBlock). length b.samples.items) c.in_ok-husk.ensures ∙ block_is s c.loop-t.t c.from.result q (search rules) (c.from.ensures ∙ ap (λ (l : List Route). (get_or l c.loop-t.t q).channels) so.routes),
            refl,
          )
          so.each);
    }
