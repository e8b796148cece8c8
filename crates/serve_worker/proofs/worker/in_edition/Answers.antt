use Rattle.std.proofs.Common.{subst, sym}
use Rattle.butler.specs.Faults.{KeepsRest}
use Rattle.butler.specs.Turns.{AllSend, Answers}
use Rattle.serve_worker.specs.Serves.{FlushesAt, ServesAt, with_entered}
use Rattle.serve_worker.proofs.KeptLemmas.{turn_keeps}
use Rattle.serve_worker.proofs.ServeLemmas as serve
use Rattle.serve_worker.proofs.worker.in_edition.Goals as goal

-- src/worker.rt
pub returns-clause-serves : goal.returns-clause-serves
returns-clause-serves g c serves = let did = c.turn-answer.ensures in
    subst (λ f. ServesAt g.M.Media.outside (with_entered c.args.w.reader.edition.edits g.on) (record { reader = c.args.w.reader; butler = c.turn-answer.new.self; failed = f })) (sym c.after-noted.ensures)
    (serve.serves_on g.M.Media.outside g.on c.args.w c.edition.result.now c.turn-answer.new.self c.turn-answer.result c.edition.ensures did.serving did.takes did.stays_true did.fails did.rest serves)

pub returns-clause-flushes : goal.returns-clause-flushes
returns-clause-flushes g c flushes = let did = c.turn-answer.ensures in
    subst (λ f. FlushesAt g.M.Media.outside (with_entered c.args.w.reader.edition.edits g.on) (record { reader = c.args.w.reader; butler = c.turn-answer.new.self; failed = f })) (sym c.after-noted.ensures)
    (serve.flushes_on g.M.Media.outside g.on c.args.w c.edition.result.now c.turn-answer.new.self c.turn-answer.result c.edition.ensures did.serving did.takes did.stays_true did.fails did.rest flushes)

pub returns-clause-turned : goal.returns-clause-turned
returns-clause-turned g c = let did = c.turn-answer.ensures in record {
  answer = c.turn-answer.result;
  idle_is = c.is_idle.ensures;
  answers = subst (λ e. Answers g.on.at.session e c.args.most c.args.w.butler c.turn-answer.result c.turn-answer.new.self) c.edition.ensures did.answer;
  receives = did.receives;
  sends = subst (λ e. AllSend g.on.at.session e c.args.w.butler c.turn-answer.new.self) c.edition.ensures did.sends;
  fails = did.fails;
  rest = subst (λ e. KeepsRest g.M.Media.outside g.on.at.session e c.args.w.butler c.turn-answer.new.self) c.edition.ensures did.rest;
}

pub returns-clause-keeps : goal.returns-clause-keeps
returns-clause-keeps g c = let did = c.turn-answer.ensures in
    turn_keeps g.M.Media.outside g.on.at.session g.on.at.edits c.edition.result.now.edits c.edition.result.now c.args.w.butler c.turn-answer.new.self c.turn-answer.result c.requires.1.1.serving did.serving did.fails
    did.receives did.sends did.rest
