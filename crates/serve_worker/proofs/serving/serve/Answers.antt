use Rattle.std.proofs.Common.{refl, sym, subst, ◌∙◌}
use mathlib.Core.List.{IsPrefix}
use base.Growing.{prefix_refl, prefix_trans}
use Rattle.route_lists.specs.Answers.{HasSameTold}
use Rattle.route_lists.specs.Lists.{Reading}
use Rattle.serve_worker.specs.Ends.{TurnLeaves}
use Rattle.serve_worker.specs.Serves.{entered_last, served_from}
use Rattle.serve_worker.proofs.KeptLemmas.{butler_refl, butler_trans}
use Rattle.serve_worker.proofs.ServeLemmas as serve
use Rattle.serve_worker.proofs.serving.serve.Goals as goal

-- src/serving.rt
pub loop-turn-init : goal.loop-turn-init
loop-turn-init g c = record { serves = c.requires.serves; keeps = butler_refl c.args.w.butler; told = (refl, refl); grows = prefix_refl c.args.w.reader.edition.edits }

pub loop-turn-preserved-in-Served : goal.loop-turn-preserved-in-Served
loop-turn-preserved-in-Served g c = let M = g.M.Media.outside in let w = c.loop-turn.w in let new = c.one-next.result.0 in let did = c.one-next.ensures in let inv = c.loop-turn.invariant in record {
  serves = serve.serves_now M c.args.told.now (entered_last w) new (subst (λ how. TurnLeaves M (served_from M c.args.told.now (entered_last w)) c.args.most w how new) c.in-Served.is did.leaves).serves;
  keeps = butler_trans c.args.w.butler w.butler new.butler inv.keeps did.keeps;
  told = (did.told.0 ∙ inv.told.0, did.told.1 ∙ inv.told.1);
  grows = prefix_trans c.args.w.reader.edition.edits w.reader.edition.edits new.reader.edition.edits inv.grows did.grows;
}

pub loop-turn-preserved : goal.loop-turn-preserved
loop-turn-preserved g c = let M = g.M.Media.outside in let w = c.loop-turn.w in let new = c.one-next.result.0 in let did = c.one-next.ensures in let inv = c.loop-turn.invariant in record {
  serves = serve.serves_now M c.args.told.now (entered_last w) new (subst (λ how. TurnLeaves M (served_from M c.args.told.now (entered_last w)) c.args.most w how new) c.in-Idle.is did.leaves).serves;
  keeps = butler_trans c.args.w.butler w.butler new.butler inv.keeps did.keeps;
  told = (did.told.0 ∙ inv.told.0, did.told.1 ∙ inv.told.1);
  grows = prefix_trans c.args.w.reader.edition.edits w.reader.edition.edits new.reader.edition.edits inv.grows did.grows;
}

pub returns-in-Idle-clause-ends : goal.returns-in-Idle-clause-ends
returns-in-Idle-clause-ends g c = let M = g.M.Media.outside in let w = c.loop-turn.w in let new = c.one-next.result.0 in
    let made = subst (λ how. TurnLeaves M (served_from M c.args.told.now (entered_last w)) c.args.most w how new) c.in-Idle.is c.one-next.ensures.leaves in
    (serve.serves_now M c.args.told.now (entered_last w) new made.serves, record { before = w; serves = c.loop-turn.invariant.serves; over = sym c.over-over.ensures ∙ c.if-over.true; made = made })

pub returns-in-Idle-clause-keeps : goal.returns-in-Idle-clause-keeps
returns-in-Idle-clause-keeps g c = butler_trans c.args.w.butler c.loop-turn.w.butler c.one-next.result.0.butler c.loop-turn.invariant.keeps c.one-next.ensures.keeps

pub returns-in-Idle-clause-grows : goal.returns-in-Idle-clause-grows
returns-in-Idle-clause-grows g c = prefix_trans c.args.w.reader.edition.edits c.loop-turn.w.reader.edition.edits c.one-next.result.0.reader.edition.edits c.loop-turn.invariant.grows c.one-next.ensures.grows

pub returns-in-Idle-clause-told : goal.returns-in-Idle-clause-told
returns-in-Idle-clause-told g c = let inv = c.loop-turn.invariant in let did = c.one-next.ensures in (did.told.0 ∙ inv.told.0, did.told.1 ∙ inv.told.1)

pub flush_out-requires : goal.flush_out-requires
flush_out-requires g c = let M = g.M.Media.outside in let w = c.loop-turn.w in let new = c.one-next.result.0 in
    let refused = subst (λ how. TurnLeaves M (served_from M c.args.told.now (entered_last w)) c.args.most w how new) c.in-Refused.is c.one-next.ensures.leaves in
    record { some = c.requires.some; flushes = serve.flushes_first M c.args.told.now (entered_last w) new (serve.refused_flushes M (served_from M c.args.told.now (entered_last w)) w new refused) }

pub returns-in-Refused-clause-ends : goal.returns-in-Refused-clause-ends
returns-in-Refused-clause-ends g c = let M = g.M.Media.outside in let w = c.loop-turn.w in let new = c.one-next.result.0 in
    let refused = subst (λ how. TurnLeaves M (served_from M c.args.told.now (entered_last w)) c.args.most w how new) c.in-Refused.is c.one-next.ensures.leaves in
    record { before = w; serves = c.loop-turn.invariant.serves; after = new; refused = refused; out = c.flush_out.ensures.out }

pub returns-in-Refused-clause-keeps : goal.returns-in-Refused-clause-keeps
returns-in-Refused-clause-keeps g c = let b = c.one-next.result.0.butler in
    butler_trans c.args.w.butler b c.flush_out.result.butler (butler_trans c.args.w.butler c.loop-turn.w.butler b c.loop-turn.invariant.keeps c.one-next.ensures.keeps) c.flush_out.ensures.keeps

pub returns-in-Refused-clause-grows : goal.returns-in-Refused-clause-grows
returns-in-Refused-clause-grows g c = let edits = c.args.w.reader.edition.edits in subst (λ (r : Reading). IsPrefix edits r.edition.edits) (sym c.flush_out.ensures.out.reader)
    (prefix_trans edits c.loop-turn.w.reader.edition.edits c.one-next.result.0.reader.edition.edits c.loop-turn.invariant.grows c.one-next.ensures.grows)

pub returns-in-Refused-clause-told : goal.returns-in-Refused-clause-told
returns-in-Refused-clause-told g c = let inv = c.loop-turn.invariant in let did = c.one-next.ensures in
    subst (HasSameTold c.args.w.reader) (sym c.flush_out.ensures.out.reader) (did.told.0 ∙ inv.told.0, did.told.1 ∙ inv.told.1)
