use Rattle.std.proofs.Common.{◌≡◌, ◌+◌, ◌-◌, ◌<◌, length, get_or, sym, ◌∙◌, ap, arith, rules}
use Rattle.std.proofs.lemmas.List.{get_or_read}
use Rattle.ses_units.specs.Point.{points_of}
use Rattle.ramp_fixed.proofs.LanePlaces.{flat_empty, flat_before, flat_after, line_of_neighbours, point_near}
use Rattle.ramp_fixed.proofs.piece.Piece.around.Goals as goal

pub returns-then-is_empty-clause-piece : goal.returns-then-is_empty-clause-piece
returns-then-is_empty-clause-piece c =
    let none : length c.args.points.now ≡ 0 = search rules in
    c.flat.ensures.piece c.args.fader (points_of c.args.points.now) (flat_empty c.args.fader c.args.points.now _ _ none)

pub along-requires-clause-near : goal.along-requires-clause-near
along-requires-clause-near c =
    let q = c.index-points-next-else-next-points-2.result in
    let near = point_near c.args.points.now q c.count_through-next.result c.requires.lane (omega arith) c.index-points-next-else-next-points-2.is in
    omega arith

pub returns-then-next-eq0-clause-piece : goal.returns-then-next-eq0-clause-piece
returns-then-next-eq0-clause-piece c =
    let some : 0 < length c.args.points.now = search rules in
    c.flat-then-next-eq0.ensures.piece c.args.fader (points_of c.args.points.now)
    (λ x h m. flat_before c.args.fader c.args.points.now c.index-points-0.result some c.index-points-0.is x h m ∙ sym c.value.ensures.value)

pub returns-then-next-points-clause-piece : goal.returns-then-next-points-clause-piece
returns-then-next-points-clause-piece c =
    let some : 0 < length c.args.points.now = search rules in
    c.flat-then-next-points.ensures.piece c.args.fader (points_of c.args.points.now)
    (λ x h m. flat_after c.args.fader c.args.points.now c.index-points-next.result (c.count_through-next.result - 1) _ c.requires.lane (omega arith) c.index-points-next.is x h m
    ∙ sym c.value-then-next-points.ensures.value)

pub returns-else-next-points-clause-piece : goal.returns-else-next-points-clause-piece
returns-else-next-points-clause-piece c =
    let points = c.args.points.now in
    let next = c.count_through-next.result in
    let p = c.index-points-next-else-next-points.result in
    let q = c.index-points-next-else-next-points-2.result in
    let within : next < length points = omega arith in
    let index : next ≡ next - 1 + 1 = omega arith in
    let read = get_or_read points next q within c.index-points-next-else-next-points-2.is p in
    c.along.ensures.piece c.args.fader (points_of points)
    (line_of_neighbours c.args.fader points p q (next - 1) c.requires.lane (omega arith) c.index-points-next-else-next-points.is (read ∙ ap (λ i. get_or points i p) index))
