use Rattle.std.proofs.Common.{get_or, arith}
use Rattle.session_model.specs.Region.{regions_of, IsRegion}
use Rattle.playlist_layers.proofs.Places.{holds_at, whole_more, whole_all}
use Rattle.playlist_layers.proofs.spans.span_end.Goals as goal

pub cut-end-requires-clause-limits : goal.cut-end-requires-clause-limits
cut-end-requires-clause-limits c =
    holds_at IsRegion c.args.regions.now (get_or c.args.places.now c.loop-place.place-index 0) c.index-regions-place.result (c.requires.places c.loop-place.place-index 0 (omega arith)) c.index-regions-place.is c.requires.limits

pub loop-place-preserved : goal.loop-place-preserved
loop-place-preserved c = record {
  some = c.cut-end.ensures.some;
  most = omega (arith, c.cut-end.ensures.most, c.loop-place.invariant.most);
  whole = whole_more c.args.here c.loop-place.end c.cut-end.result c.args.regions.now c.args.places.now c.loop-place.place-index c.index-regions-place.result (omega arith)
      (c.requires.places c.loop-place.place-index 0 (omega arith)) c.index-regions-place.is c.cut-end.ensures.most c.cut-end.ensures.whole c.loop-place.invariant.whole;
}

pub returns-clause-whole : goal.returns-clause-whole
returns-clause-whole c =
    whole_all c.args.here c.loop-place.end (regions_of c.args.regions.now) c.args.places.now c.loop-place.place-index (omega arith) c.loop-place.invariant.whole
