use Rattle.std.proofs.Common.{sym, refl, ◌∙◌}
use Rattle.std.proofs.lemmas.Bool.{false≢true}
use Rattle.engine_core.proofs.EnterLemmas.{under_way_entered}
use Rattle.engine_core.proofs.run.Run.enter.Goals as goal

-- src/letters.rt
pub enter-requires : goal.enter-requires
enter-requires g c κs within = (within.0, (within.1.0, (within.1.1, c.requires.1.1.1.runs (sym c.has_stopped.ensures ∙ c.if-not-has_stopped.true))))

pub returns-then-not-has_stopped-clause-under_way : goal.returns-then-not-has_stopped-clause-under_way
returns-then-not-has_stopped-clause-under_way g c = under_way_entered g.M.Media.outside g.I.Source.outside g.W.Sink.outside g.on c.args.self.now c.requires.1.1.1
    (sym c.has_stopped.ensures ∙ c.if-not-has_stopped.true) c.enter.new.self c.enter.ensures.enters c.enter.ensures.runs

pub returns-then-not-has_stopped-clause-enters : goal.returns-then-not-has_stopped-clause-enters
returns-then-not-has_stopped-clause-enters g c = record {
  failed = refl;
  stays = λ stopped. absurd (false≢true (sym (sym c.has_stopped.ensures ∙ c.if-not-has_stopped.true) ∙ stopped));
  enters = λ goes. c.enter.ensures.enters;
}

pub returns-then-not-has_stopped-clause-letter : goal.returns-then-not-has_stopped-clause-letter
returns-then-not-has_stopped-clause-letter g c = λ core fine tied. c.enter.ensures.as_machine core tied
