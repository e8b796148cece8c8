use Rattle.std.proofs.Common.{ap, subst, sym, length, ◌∙◌, Ok, Err}
use Rattle.std.specs.Prelude.{None}
use Rattle.edition_log.specs.EditionState.{EditionState}
use Rattle.route_lists.specs.Answers.{Publishes}
use Rattle.control_desk.specs.Steps.{CarriesOut}
use Rattle.lead_worker.specs.Leads.{TakesALine, at_line}
use Rattle.lead_worker.proofs.LineLemmas.{loses_it, takes_edit, takes_none}
use Rattle.control_letter.proofs.PublishLemmas.{edits_are, is_answer, is_open}
use Rattle.lead_worker.proofs.line.carry.Goals as goal
use Rattle.lead_worker.proofs.line.carry.Goals.{in-Ok, in-Err-Refused}

-- src/line.rt
pub returns-in_default-clause-carries : goal.returns-in_default-clause-carries
returns-in_default-clause-carries g c from lines replies was = let source = g.C.Source.outside in let sink = g.O.Sink.outside in let old = c.args.control.now in let new = c.next.new.self in
    let seen_is = c.at_line-seen.ensures ∙ ap at_line (c.number.ensures.number ∙ ap (λ (e : EditionState). length e.edits) c.edition.ensures) in
    takes_none source sink c.args.session.now.value from lines replies c.args.lists.edition.edits old was c.requires.ready new
    (subst (λ seen. CarriesOut source sink seen old None new) seen_is (subst (λ given. CarriesOut source sink c.at_line-seen.result old given new) c.in_default.is c.next.ensures.step))

pub apply_and_publish-lists-requires-clause-open : goal.apply_and_publish-lists-requires-clause-open
apply_and_publish-lists-requires-clause-open g c = is_open c.args.session.now.value c.args.lists.edition c.requires.edition c.requires.open c.requires.unquit

pub returns-in-Err-NoMemory-clause-carries : goal.returns-in-Err-NoMemory-clause-carries
returns-in-Err-NoMemory-clause-carries g c = let e = c.args.lists.edition in let new = c.apply_and_publish-lists.result.0.edition in (
  ap (λ (z : EditionState). z.edits) (subst (λ answer. Publishes e c.in-Some.edit answer new) (c.in-Err-NoMemory.is ∙ ap Err c.in-Err-NoMemory.field-0-is) c.apply_and_publish-lists.ensures.answer),
  λ from lines replies was. loses_it g.C.Source.outside g.O.Sink.outside c.args.session.now.value from lines replies e.edits c.args.control.now was c.requires.ready
      c.at_line-seen.result c.next.new.self c.in-Some.edit c.in-Some.ensures.step,
)

pub returns-clause-carries : goal.returns-clause-carries
returns-clause-carries g c from lines replies was = let source = g.C.Source.outside in let sink = g.O.Sink.outside in let s = c.args.session.now.value in let e = c.args.lists.edition in let edit = c.in-Some.edit in
    let new = c.apply_and_publish-lists.result.0.edition in let answer = c.apply_and_publish-lists.ensures.answer in
    let takes = takes_edit source sink s from lines replies e.edits c.args.control.now was c.requires.ready c.at_line-seen.result c.next.new.self edit c.in-Some.ensures.step in
    elim c.match-answer.branch [
      | in-Ok w ↦ let applies = subst (λ a. Publishes e edit a new) w.in-Ok.is answer in subst (TakesALine source sink s from lines replies new.edits) (sym w.control-is)
          (takes w.published.new.self (Ok w.in-Ok.number) new.edits (is_answer s e new edit (Ok w.in-Ok.number) c.requires.edition applies) (edits_are e new edit (Ok w.in-Ok.number) applies)
          w.published.ensures.replies w.published.ensures.goes)
      | in-Err-Refused w ↦ let applies = subst (λ a. Publishes e edit a new) (w.in-Err-Refused.is ∙ ap Err w.in-Err-Refused.field-0-is) answer in let why = w.in-Err-Refused.why in
          subst (TakesALine source sink s from lines replies new.edits) (sym w.control-is)
          (takes w.published-in-Err-Refused.new.self (Err why) new.edits (is_answer s e new edit (Err why) c.requires.edition applies) (edits_are e new edit (Err why) applies)
          w.published-in-Err-Refused.ensures.replies w.published-in-Err-Refused.ensures.goes)
    ]
