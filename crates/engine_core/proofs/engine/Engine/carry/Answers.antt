use Rattle.std.proofs.Common.{refl, sym, ap, ◌∙◌}
use Rattle.control_desk.specs.Standing.{is_ready}
use Rattle.engine_core.proofs.CarryLemmas as carry
use Rattle.engine_core.proofs.LetterLemmas as letters
use Rattle.engine_core.proofs.PublishLemmas as publish
use Rattle.engine_core.specs.Shows.{edits_of, shows}
use Rattle.engine_core.proofs.engine.Engine.carry.Goals as goal

-- src/carrying.rt
pub returns-then-not-answer-clause-may : goal.returns-then-not-answer-clause-may
returns-then-not-answer-clause-may g c = let did = c.answer.ensures in let r = c.args.self.now.run in record {
  under_way = c.requires.1.1.1.1.1.under_way;
  may_carry = letters.may_again g.C.Source.outside g.O.Sink.outside g.on.begun.session g.on.begun.records
      (shows r) (edits_of r) (edits_of r) c.args.self.now.control c.answer.new.self c.requires.1.1.1.1.1.may_carry
      (letters.waits g.C.Source.outside g.O.Sink.outside g.on.begun.session c.progress-seen.result (shows r) c.progress-seen.ensures.shows (edits_of r) c.args.self.now.control c.answer.new.self
      (record { replies = did.replies; goes = did.goes }) (sym did.ready ∙ c.if-not-answer.true));
}

pub returns-then-not-answer-clause-carries : goal.returns-then-not-answer-clause-carries
returns-then-not-answer-clause-carries g c = let did = c.answer.ensures in let r = c.args.self.now.run in record {
  only = refl;
  letter = letters.waits g.C.Source.outside g.O.Sink.outside g.on.begun.session c.progress-seen.result (shows r) c.progress-seen.ensures.shows (edits_of r) c.args.self.now.control c.answer.new.self
      (record { replies = did.replies; goes = did.goes }) (sym did.ready ∙ c.if-not-answer.true);
}

pub returns-in_default-clause-may : goal.returns-in_default-clause-may
returns-in_default-clause-may g c = let did = c.answer.ensures in let r = c.args.self.now.run in record {
  under_way = c.requires.1.1.1.1.1.under_way;
  may_carry = letters.may_again g.C.Source.outside g.O.Sink.outside g.on.begun.session g.on.begun.records
      (shows r) (edits_of r) (edits_of r) c.args.self.now.control c.next.new.self c.requires.1.1.1.1.1.may_carry
      (letters.says g.C.Source.outside g.O.Sink.outside g.on.begun.session c.progress-seen.result (shows r) c.progress-seen.ensures.shows (edits_of r) c.args.self.now.control c.answer.new.self
      (record { replies = did.replies; goes = did.goes }) (sym did.ready ∙ c.if-not-answer.false) c.next.new.self c.in_default.ensures.step);
}

pub returns-in_default-clause-carries : goal.returns-in_default-clause-carries
returns-in_default-clause-carries g c = let did = c.answer.ensures in let r = c.args.self.now.run in record {
  only = refl;
  letter = letters.says g.C.Source.outside g.O.Sink.outside g.on.begun.session c.progress-seen.result (shows r) c.progress-seen.ensures.shows (edits_of r) c.args.self.now.control c.answer.new.self
      (record { replies = did.replies; goes = did.goes }) (sym did.ready ∙ c.if-not-answer.false) c.next.new.self c.in_default.ensures.step;
}

pub publish-answer-requires : goal.publish-answer-requires
publish-answer-requires g c κs within = let did = c.answer.ensures in let r = c.args.self.now.run in let is = c.requires.1.1.1.1.1.under_way in
    let may = letters.may_publish g.C.Source.outside g.O.Sink.outside g.on.begun.session c.progress-seen.result (shows r) c.progress-seen.ensures.shows (edits_of r) c.args.self.now.control c.answer.new.self
    (record { replies = did.replies; goes = did.goes }) (sym did.ready ∙ c.if-not-answer.false) c.in-Some.edit c.next.new.self c.in-Some.ensures.step
    g.M.Media.outside g.I.Source.outside g.W.Sink.outside g.on r refl is g.on.begun.records c.requires.1.1.1.1.1.may_carry in
    (within.0, (within.1.0, (within.1.1, (is.rests, (c.in-Some.ensures.forms, (may.0, may.1))))))

pub published-requires : goal.published-requires
published-requires g c = record { ready = ap is_ready (carry.gives_edit g.C.Source.outside g.O.Sink.outside c.progress-seen.result c.answer.new.self c.in-Some.edit c.next.new.self c.in-Some.ensures.step).stands }

pub returns-clause-may : goal.returns-clause-may
returns-clause-may g c = let did = c.answer.ensures in let r = c.args.self.now.run in let e = c.publish-answer.new.self.edition in record {
  under_way = publish.under_way_published g.M.Media.outside g.I.Source.outside g.W.Sink.outside g.on c.args.self.now.run c.requires.1.1.1.1.1.under_way
      c.publish-answer.new.self.edition c.publish-answer.new.self c.publish-answer.ensures.same c.publish-answer.ensures.rests c.publish-answer.ensures.runs;
  may_carry = letters.may_again g.C.Source.outside g.O.Sink.outside g.on.begun.session
      g.on.begun.records (shows r) (edits_of r) e.edits c.args.self.now.control c.published.new.self c.requires.1.1.1.1.1.may_carry
      (letters.publishes g.C.Source.outside g.O.Sink.outside g.on.begun.session c.progress-seen.result (shows r) c.progress-seen.ensures.shows (edits_of r) c.args.self.now.control c.answer.new.self
      (record { replies = did.replies; goes = did.goes }) (sym did.ready ∙ c.if-not-answer.false) c.in-Some.edit c.next.new.self c.in-Some.ensures.step r.pair.edition e c.publish-answer.result c.published.new.self
      refl c.requires.1.1.1.1.1.under_way.rests.serves.edition_of c.publish-answer.ensures.applies c.published.ensures.replies c.published.ensures.goes);
}

pub returns-clause-carries : goal.returns-clause-carries
returns-clause-carries g c = let did = c.answer.ensures in let r = c.args.self.now.run in let e = c.publish-answer.new.self.edition in record {
  only = carry.only_published r c.publish-answer.new.self c.publish-answer.ensures.same;
  letter = letters.publishes g.C.Source.outside g.O.Sink.outside g.on.begun.session c.progress-seen.result (shows r) c.progress-seen.ensures.shows (edits_of r) c.args.self.now.control c.answer.new.self
      (record { replies = did.replies; goes = did.goes }) (sym did.ready ∙ c.if-not-answer.false) c.in-Some.edit c.next.new.self c.in-Some.ensures.step r.pair.edition e c.publish-answer.result c.published.new.self
      refl c.requires.1.1.1.1.1.under_way.rests.serves.edition_of c.publish-answer.ensures.applies c.published.ensures.replies c.published.ensures.goes;
}

pub returns-clause-as_machine : goal.returns-clause-as_machine
returns-clause-as_machine g c = carry.published_tied g.on.begun.session c.args.self.now.run.pair c.publish-answer.new.self c.in-Some.edit c.publish-answer.result c.publish-answer.ensures.as_machine
