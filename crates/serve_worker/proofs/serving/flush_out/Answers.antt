use Rattle.std.proofs.Common.{refl, sym, ap, subst, ◌∙◌}
use Rattle.serve_worker.specs.declared.worker.ServeWorker.{ServeWorker}
use Rattle.serve_worker.specs.Ends.{TurnedOnce}
use Rattle.serve_worker.specs.Serves.{entered_last}
use Rattle.serve_worker.proofs.KeptLemmas.{butler_refl, butler_trans}
use Rattle.serve_worker.proofs.ServeLemmas as serve
use Rattle.serve_worker.proofs.serving.flush_out.Goals as goal

-- src/serving.rt
pub loop-turn-init : goal.loop-turn-init
loop-turn-init g c = record { flushes = c.requires.flushes; keeps = butler_refl c.args.w.butler; reader = refl; unread = refl }

pub loop-turn-preserved-then-idle-2 : goal.loop-turn-preserved-then-idle-2
loop-turn-preserved-then-idle-2 g c = let w = c.loop-turn.w in let new = c.in_edition-next.result.0 in let did = c.in_edition-next.ensures in let inv = c.loop-turn.invariant in record {
  flushes = serve.flushes_now g.M.Media.outside c.args.told.now (entered_last w) new (did.flushes inv.flushes);
  keeps = butler_trans c.args.w.butler w.butler new.butler inv.keeps did.keeps;
  reader = ap (λ (z : ServeWorker g.row.M.Denot). z.reader) did.same ∙ inv.reader;
  unread = serve.unread_on g.M.Media.outside c.args.told.now c.args.most w new c.in_edition-next.result.1 did.turned inv.flushes.hushed ∙ inv.unread;
}

pub loop-turn-preserved : goal.loop-turn-preserved
loop-turn-preserved g c = let w = c.loop-turn.w in let new = c.in_edition-next.result.0 in let did = c.in_edition-next.ensures in let inv = c.loop-turn.invariant in record {
  flushes = serve.flushes_now g.M.Media.outside c.args.told.now (entered_last w) new (did.flushes inv.flushes);
  keeps = butler_trans c.args.w.butler w.butler new.butler inv.keeps did.keeps;
  reader = ap (λ (z : ServeWorker g.row.M.Denot). z.reader) did.same ∙ inv.reader;
  unread = serve.unread_on g.M.Media.outside c.args.told.now c.args.most w new c.in_edition-next.result.1 did.turned inv.flushes.hushed ∙ inv.unread;
}

pub returns-then-over-clause-out : goal.returns-then-over-clause-out
returns-then-over-clause-out g c = let M = g.M.Media.outside in let w = c.loop-turn.w in let new = c.in_edition-next.result.0 in let did = c.in_edition-next.ensures in let inv = c.loop-turn.invariant in record {
  flushes = serve.flushes_now M c.args.told.now (entered_last w) new (did.flushes inv.flushes);
  reader = ap (λ (z : ServeWorker g.row.M.Denot). z.reader) did.same ∙ inv.reader;
  unread = serve.unread_on M c.args.told.now c.args.most w new c.in_edition-next.result.1 did.turned inv.flushes.hushed ∙ inv.unread;
  before = w;
  flushed = inv.flushes;
  keeps = inv.keeps;
  seen = inv.reader;
  over = sym c.over-over.ensures ∙ c.if-over.true;
  turned = subst (λ idle. TurnedOnce M c.args.told.now.session.value c.args.most w idle new) c.if-idle.true did.turned;
}

pub returns-then-over-clause-keeps : goal.returns-then-over-clause-keeps
returns-then-over-clause-keeps g c = butler_trans c.args.w.butler c.loop-turn.w.butler c.in_edition-next.result.0.butler c.loop-turn.invariant.keeps c.in_edition-next.ensures.keeps
