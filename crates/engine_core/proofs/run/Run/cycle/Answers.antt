use Rattle.std.proofs.Common.{sym, refl, ◌∙◌}
use Rattle.std.proofs.lemmas.Bool.{false≢true}
use Rattle.engine_core.proofs.GatherLemmas.{played_all}
use Rattle.engine_core.proofs.CycleLemmas as cycle
use Rattle.engine_core.proofs.CoreCycleLemmas.{cycles_open, cycles_shut}
use Rattle.engine_core.proofs.run.Run.cycle.Goals as goal

-- src/letters.rt
pub returns-then-not-self-clause-cycles : goal.returns-then-not-self-clause-cycles
returns-then-not-self-clause-cycles g c = record {
  gathered = c.gather.new.self;
  gathers = c.gather.ensures.gathers;
  stays = λ shut. refl;
  cycles = λ opens. absurd (false≢true (sym c.if-not-self.true ∙ opens));
}

pub returns-then-not-self-clause-letter : goal.returns-then-not-self-clause-letter
returns-then-not-self-clause-letter g c = cycles_shut g.on.begun.session c.args.self.now c.gather.new.self c.gather.ensures.gathers c.gather.ensures.letter c.if-not-self.true

pub cycle-answer-requires : goal.cycle-answer-requires
cycle-answer-requires g c κs within = let r = c.gather.new.self in let now = c.gather.ensures in (
  within.0,
  (
    within.1.0,
    (
      within.1.1,
      cycle.may_cycle g.M.Media.outside g.I.Source.outside g.W.Sink.outside g.on r now.under_way c.if-not-self.false (played_all c.args.self.now r now.gathers c.if-not-self.false)
          (now.looked c.if-not-self.false),
    ),
  ),
)

pub returns-clause-under_way : goal.returns-clause-under_way
returns-clause-under_way g c = let M = g.M.Media.outside in let I = g.I.Source.outside in let W = g.W.Sink.outside in let r = c.gather.new.self in let now = c.gather.ensures in
    let new = c.cycle-answer.new.self in let did = c.cycle-answer.ensures in
    cycle.under_way_cycled M I W g.on r now.under_way c.if-not-self.false (played_all c.args.self.now r now.gathers c.if-not-self.false) (now.looked c.if-not-self.false) c.session-session.ensures.seen.valid
    new c.cycle-answer.result c.after_cycle-self.result c.after_cycle-self.ensures did.cycles did.runs did.rests did.hears

pub returns-clause-cycles : goal.returns-clause-cycles
returns-clause-cycles g c = record {
  gathered = c.gather.new.self;
  gathers = c.gather.ensures.gathers;
  stays = λ shut. absurd (false≢true (sym shut ∙ c.if-not-self.false));
  cycles = λ opens. record { answer = c.cycle-answer.result; cycles = c.cycle-answer.ensures.cycles; failed = c.after_cycle-self.ensures };
}

pub returns-clause-letter : goal.returns-clause-letter
returns-clause-letter g c = cycles_open g.on.begun.session c.args.self.now c.gather.new.self c.gather.ensures.gathers c.gather.ensures.letter c.if-not-self.false
    c.cycle-answer.new.self c.cycle-answer.result c.after_cycle-self.result c.after_cycle-self.ensures c.cycle-answer.ensures.as_machine
