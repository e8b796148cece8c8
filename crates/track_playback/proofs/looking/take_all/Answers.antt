use Rattle.std.proofs.Common.{refl, ap, sym, ◌∙◌}
use Rattle.piece_item.specs.Views.{kind_of}
use Rattle.track_playback.specs.Looks.{holds}
use Rattle.track_playback.proofs.LookLemmas.{starts_here, offers_one, holds_one}
use Rattle.track_playback.proofs.looking.take_all.Goals as goal

pub loop-item-init : goal.loop-item-init
loop-item-init c = record {
  offers = starts_here c.args.at c.args.ring.now c.args.window.now c.args.husk c.requires.since;
  room = c.requires.husk;
  tails = refl;
  heard = refl;
}

pub returns-then-holds-clause-offers : goal.returns-then-holds-clause-offers
returns-then-holds-clause-offers c = let l = c.loop-item in
    holds_one c.args.at c.args.ring.now c.args.window.now l.ring c.take.new.self l.window l.husk l.invariant.offers c.in-Ok.ensures.ring
    c.in-Ok.item c.in-Ok.ensures.answer.received

pub returns-then-holds-clause-ends : goal.returns-then-holds-clause-ends
returns-then-holds-clause-ends c = (
  ap (λ x. holds c.args.at (kind_of x.kind)) (sym c.deref.ensures) ∙ sym c.holds.ensures ∙ c.if-holds.true,
  ap (λ r. r.tails) c.in-Ok.ensures.answer.received ∙ c.loop-item.invariant.tails,
)

pub returns-then-holds-clause-told : goal.returns-then-holds-clause-told
returns-then-holds-clause-told c = tt

pub loop-item-preserved : goal.loop-item-preserved
loop-item-preserved c = let l = c.loop-item in record {
  offers = offers_one c.args.at c.args.ring.now c.args.window.now l.ring c.take.new.self l.window l.husk l.invariant.offers c.in-Ok.ensures.ring
      c.in-Ok.item c.offer-husk.result c.offer-husk.new.window c.in-Ok.ensures.answer.received (ap (λ x. holds c.args.at (kind_of x.kind)) (sym c.deref.ensures) ∙ sym c.holds.ensures ∙ c.if-holds.false) c.offer-husk.ensures;
  room = c.offer-husk.ensures.husk_samples ∙ l.invariant.offers.samples;
  tails = ap (λ r. r.tails) c.in-Ok.ensures.answer.received ∙ l.invariant.tails;
  heard = ap (λ r. r.heard) c.in-Ok.ensures.answer.received ∙ l.invariant.heard;
}
