use Rattle.std.proofs.Common.{◌<◌, ◌^◌, ◌∙◌, ap, sym, map, arith}
use Rattle.sound_model.specs.Lanes as sound
use Rattle.ses_units.specs.Point.{point_of}
use Rattle.session_text.specs.Tables.{pair, values}
use Rattle.session_text.proofs.ListLaws.{map-map}
use Rattle.session_text.proofs.CodeLaws.{of-item, one-more, all-written}
use Rattle.session_text.proofs.lanes.pairs.Goals as goal

pub pair-requires : goal.pair-requires
pair-requires c =
    let near = of-item (λ (p : sound.Point). p.at < 2 ^ 40) point_of c.points-p-items.result.now c.args.lane.now c.loop-p.p-index c.p-item.result
    c.points-p-items.ensures.points c.points-p-items.ensures.lane.near c.loop-p-test.true c.p-item.is in
    omega (arith, near)

pub loop-p-preserved : goal.loop-p-preserved
loop-p-preserved c =
    one-more (λ p. pair (point_of p)) c.points-p-items.result.now c.loop-p.p-index c.p-item.result _ _ _ c.loop-p.invariant c.in_ok-push.ensures.items
    c.in_ok-pair.ensures c.loop-p-test.true c.p-item.is

pub returns-clause-value : goal.returns-clause-value
returns-clause-value c =
    all-written (λ p. pair (point_of p)) c.points-p-items.result.now c.loop-p.p-index c.loop-p.points c.loop-p.invariant c.loop-p-test.false
    ∙ ap values (sym (map-map point_of pair c.points-p-items.result.now) ∙ ap (map pair) c.points-p-items.ensures.points)
