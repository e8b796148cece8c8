use Rattle.std.proofs.Common.{◌-◌, ◌≤◌, refl, sym, subst, ◌∙◌, arith}
use Rattle.std.proofs.lemmas.List.{get_or_read}
use Rattle.ses_units.specs.declared.point.Point.{Point}
use Rattle.ramp_fixed.proofs.EvenLanes.{flat_more, flat_there, flat_until}
use Rattle.ramp_fixed.proofs.even.are_flat.Goals as goal

pub returns-then-last-points : goal.returns-then-last-points
returns-then-last-points c = (
  λ t. flat_until c.args.points.now c.args.from c.loop-i.i c.index-points-i.result c.index-points-i.result (omega arith) (omega arith) c.args.last c.requires.lane c.if-last-points.true c.loop-i.invariant,
  λ flat. refl,
)

pub returns-then-value : goal.returns-then-value
returns-then-value c =
    let p = c.index-points-i-in-loop-i.result in
    let q = c.index-points-i-in-loop-i-2.result in (
      λ t. cc,
      λ flat.
          let seen = c.index-points-i.result in
          let read = sym c.index-points-i.is ∙ get_or_read c.args.points.now (c.loop-i.i - 1) seen (omega arith) c.index-points-i.is p in
          let begins = subst (λ (r : Point). r.at ≤ c.args.last) read c.if-last-points.false in
          let same = flat_there c.args.points.now c.args.from c.loop-i.i p q (omega arith) (omega arith) c.args.last flat begins in
          absurd (c.if-value.true (c.value.ensures.value ∙ same ∙ sym c.value-in-loop-i.ensures.value)),
    )

pub loop-i-preserved : goal.loop-i-preserved
loop-i-preserved c =
    flat_more c.args.points.now c.args.from c.loop-i.i c.index-points-i-in-loop-i.result c.index-points-i-in-loop-i-2.result (omega arith) (omega arith)
    (sym c.value.ensures.value ∙ c.if-value.false ∙ c.value-in-loop-i.ensures.value) c.loop-i.invariant
