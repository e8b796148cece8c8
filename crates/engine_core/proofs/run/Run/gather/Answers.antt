use Rattle.std.proofs.Common.{sym, refl, ◌∙◌}
use Rattle.std.proofs.lemmas.Bool.{false≢true}
use Rattle.engine_core.proofs.GatherLemmas as gather
use Rattle.engine_core.proofs.run.Run.gather.Goals as goal

-- src/letters.rt
pub returns-then-not-self-clause-gathers : goal.returns-then-not-self-clause-gathers
returns-then-not-self-clause-gathers g c = record {
  entered = c.enter.new.self;
  enters = c.enter.ensures.enters;
  failed = c.enter.ensures.enters.failed;
  stays = λ shut. refl;
  looks = λ opens. absurd (false≢true (sym c.if-not-self.true ∙ opens));
}

pub returns-then-not-self-clause-letter : goal.returns-then-not-self-clause-letter
returns-then-not-self-clause-letter g c = gather.gathers_shut g.on.begun.session c.args.self.now c.enter.new.self c.enter.ensures.enters c.enter.ensures.letter c.if-not-self.true

pub returns-then-not-self-clause-looked : goal.returns-then-not-self-clause-looked
returns-then-not-self-clause-looked g c = λ opens. absurd (false≢true (sym c.if-not-self.true ∙ opens))

pub look-requires : goal.look-requires
look-requires g c κs within = (
  within.0,
  (
    within.1.0,
    (
      within.1.1,
      (gather.old_runs g.M.Media.outside g.I.Source.outside g.W.Sink.outside g.on c.enter.new.self c.enter.ensures.under_way c.if-not-self.false, c.if-not-self.false),
    ),
  ),
)

pub returns-clause-under_way : goal.returns-clause-under_way
returns-clause-under_way g c = gather.under_way_looked g.M.Media.outside g.I.Source.outside g.W.Sink.outside g.on c.enter.new.self c.enter.ensures.under_way c.if-not-self.false
    c.look.new.self c.look.ensures.looks c.look.ensures.runs

pub returns-clause-gathers : goal.returns-clause-gathers
returns-clause-gathers g c = record {
  entered = c.enter.new.self;
  enters = c.enter.ensures.enters;
  failed = c.enter.ensures.enters.failed;
  stays = λ shut. absurd (false≢true (sym shut ∙ c.if-not-self.false));
  looks = λ opens. c.look.ensures.looks;
}

pub returns-clause-looked : goal.returns-clause-looked
returns-clause-looked g c = λ opens. gather.has_looked_now g.M.Media.outside g.I.Source.outside g.W.Sink.outside g.on c.enter.new.self c.enter.ensures.under_way c.if-not-self.false
    c.look.new.self c.look.ensures.looks c.look.ensures.runs c.look.ensures.looked

pub returns-clause-letter : goal.returns-clause-letter
returns-clause-letter g c = gather.gathers_open g.on.begun.session c.args.self.now c.enter.new.self c.enter.ensures.enters c.enter.ensures.letter c.if-not-self.false
    c.look.new.self c.look.ensures.as_machine
