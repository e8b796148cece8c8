use Rattle.std.proofs.Common.{◌∙◌, ℕ, sym, ap, subst, length}
use Rattle.std.proofs.lemmas.List.{length-replicate}
use Rattle.butler.specs.Serving.{IsServing, IsTrueTo}
use Rattle.butler.proofs.FirstLemmas as first
use Rattle.butler.proofs.BeginLemmas.{begins}
use Rattle.butler.proofs.butler.Butler.new.Goals as goal

pub invariant_of-result : goal.invariant_of-result
invariant_of-result g c = let has = c.in_ok-holds.ensures.first in (
  first.first_stocked g.s c.args.e.now c.args.sources.opened c.args.cycles c.args.ends c.requires.1.0 c.in_ok-holds.holds.supplies.items c.in_ok-holds.holds.drain has.supplies has.drain,
  ap length has.nexts ∙ length-replicate {A = ℕ} 10001 0,
  has.husk,
  has.ended ∙ sym c.requires.1.0.not_ended,
)

pub returns-clause-serving : goal.returns-clause-serving
returns-clause-serving g c = let has = c.in_ok-holds.ensures.first in
    subst (IsServing g.s c.args.e.now.edits) (begins g.s c.args.e.now c.args.sources c.args.cycles c.args.ends c.requires.1.0 c.args.media c.in_ok-holds.holds has c.requires.1.1)
    (first.first_serving g.s c.args.e.now c.args.sources.opened c.args.cycles c.args.ends c.requires.1.0 c.args.media c.in_ok-holds.holds.supplies.items c.in_ok-holds.holds.drain has.supplies c.in_ok-holds.ensures.taking)

pub returns-clause-true_to : goal.returns-clause-true_to
returns-clause-true_to g c = λ files. let has = c.in_ok-holds.ensures.first in
    subst (IsTrueTo files g.s c.args.e.now.edits) (begins g.s c.args.e.now c.args.sources c.args.cycles c.args.ends c.requires.1.0 c.args.media c.in_ok-holds.holds has c.requires.1.1)
    (first.first_true g.s c.args.e.now c.args.sources.opened c.args.cycles c.args.ends c.requires.1.0 c.args.media c.in_ok-holds.holds.supplies.items c.in_ok-holds.holds.drain has.supplies files)

pub returns-clause-no_take : goal.returns-clause-no_take
returns-clause-no_take g c = first.first_flushed g.s c.args.e.now c.args.sources.opened c.args.cycles c.args.ends c.requires.1.0 c.in_ok-holds.holds.drain c.in_ok-holds.ensures.first.drain
