use Rattle.std.proofs.Common.{rules, sym, subst, []}
use Rattle.capture_flush.proofs.TakingLemmas.{new_taking}
use Rattle.capture_flush.proofs.FlushLemmas.{nothing_flushed}
use Rattle.capture_flush.specs.Taking.{IsTakingOf, Taking}
use Rattle.capture_flush.specs.Flushed.{IsFlushed}
use Rattle.capture_flush.proofs.takes.TakeFiles.new.Goals as goal

pub returns-clause-new : goal.returns-clause-new
returns-clause-new c = search rules

pub returns-clause-of : goal.returns-clause-of
returns-clause-of c = subst (IsTakingOf c.args.s.now) (sym (returns-clause-new c)) (new_taking c.args.s.now c.requires c.in_ok-tracks_of.ensures.named)

pub returns-clause-nothing : goal.returns-clause-nothing
returns-clause-nothing c held fresh = let L : Taking → Type 0 = λ f. IsFlushed (record { session = c.args.s.now; held = held; blocks = λ _. [] }) f held in
    subst L (sym (returns-clause-new c)) (nothing_flushed c.args.s.now held c.requires fresh)
