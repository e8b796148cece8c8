use Rattle.std.proofs.Common.{◌≡◌, ◌∙◌, List, get_or, refl, sym, ap, arith}
use Rattle.std.specs.Prelude.{Some, slice_get}
use Rattle.std.proofs.lemmas.Option.{slice_get-get_or}
use Rattle.disk_ring.specs.Receiver.{Receiver}
use Rattle.piece_item.specs.declared.take_block.TakeBlock.{TakeBlock}
use Rattle.capture_drain.proofs.AllLemmas.{answer_one}
use Rattle.capture_drain.proofs.draining.drain_track.Goals as goal

pub drain_ring-requires : goal.drain_ring-requires
drain_ring-requires g c κs within = let t = c.args.track in let ks = c.args.tracks.now in let rings = c.args.rings.now in
    let fitted = c.requires.1.1.1.0 in let lt = c.requires.1.1.1.1.0 in let many = fitted.many in let tracks = c.requires.1.1.1.1.1 in
    let ring : slice_get rings t ≡ Some (get_or rings t c.index-rings-track.result) = slice_get-get_or rings t c.index-rings-track.result lt in
    let kept : slice_get ks t ≡ Some (get_or ks t c.index-tracks-track.result) = slice_get-get_or ks t c.index-tracks-track.result (omega arith) in (
      within,
      (
        c.requires.1.0,
        record {
          here = ap (λ (l : List (Receiver TakeBlock)). slice_get l t) (sym c.requires.1.1.0) ∙ ring;
          track = omega arith;
          fits = fitted.each t _ _ kept ring;
        },
      ),
    )

pub returns-clause-one : goal.returns-clause-one
returns-clause-one g c = let t = c.args.track in let rings = c.args.rings.now in let lt = c.requires.1.1.1.1.0 in record {
  kept = c.drain_ring.new.kept;
  was = get_or rings t c.index-rings-track.result;
  ring = c.drain_ring.new.ring;
  here = slice_get-get_or rings t c.index-rings-track.result lt;
  tracks = refl;
  rings = refl;
  fits = c.drain_ring.ensures.fits;
  drains = c.drain_ring.ensures.ring;
}

pub returns-clause-answer : goal.returns-clause-answer
returns-clause-answer g c = let t = c.args.track in let rings = c.args.rings.now in let lt = c.requires.1.1.1.1.0 in
    answer_one c.args.most t rings (get_or rings t c.index-rings-track.result) c.drain_ring.new.ring c.drain_ring.result (slice_get-get_or rings t c.index-rings-track.result lt) c.drain_ring.ensures.answer
