use Rattle.std.proofs.Common.{◌∙◌, refl, subst}
use Rattle.std.specs.Prelude.{Option, Some}
use base.Growing.{prefix_refl, prefix_trans}
use Rattle.process_cycle.specs.ProcessState.{Playing, entered}
use Rattle.play_worker.specs.declared.worker.Ended.{Ended}
use Rattle.play_worker.specs.Plays.{StepLeaves, at_now, given_last}
use Rattle.disk_ring.proofs.GoesOn.{goes_on_out_refl, goes_on_out_trans}
use Rattle.play_worker.proofs.KeptLemmas.{run_refl, run_trans}
use Rattle.play_worker.proofs.PlaysLemmas as lemmas
use Rattle.play_worker.proofs.worker.cycles.Goals as goal

pub loop-end-init : goal.loop-end-init
loop-end-init g c = record { plays = c.requires.plays; told = refl; keeps = run_refl _; grants = goes_on_out_refl _; grows = prefix_refl _ }

pub loop-end-preserved : goal.loop-end-preserved
loop-end-preserved g c = let is = c.one-next.ensures in let so = c.loop-end.invariant in let v = c.one-next.result.0 in record {
  plays = lemmas.plays_now g.I.Source.outside g.W.Sink.outside c.loop-end.w v is.told c.args.patience
      (subst (λ (o : Option Ended). StepLeaves c.args.patience g.I.Source.outside g.W.Sink.outside (entered (given_last v) (at_now g.I.Source.outside g.W.Sink.outside c.loop-end.w)) o v) c.in_default.is is.leaves);
  told = is.told ∙ so.told;
  keeps = run_trans _ _ _ so.keeps is.keeps;
  grants = goes_on_out_trans _ _ _ so.grants is.grants;
  grows = prefix_trans _ _ _ so.grows is.grows;
}

pub returns-in-Some-clause-told : goal.returns-in-Some-clause-told
returns-in-Some-clause-told g c = c.one-next.ensures.told ∙ c.loop-end.invariant.told

pub returns-in-Some-clause-grows : goal.returns-in-Some-clause-grows
returns-in-Some-clause-grows g c = prefix_trans _ _ _ c.loop-end.invariant.grows c.one-next.ensures.grows

pub returns-in-Some-clause-leaves : goal.returns-in-Some-clause-leaves
returns-in-Some-clause-leaves g c = let is = c.one-next.ensures in let v = c.one-next.result.0 in
    subst (λ (at : Playing). StepLeaves c.args.patience g.I.Source.outside g.W.Sink.outside at (Some c.in-Some.end) v) (lemmas.at_now_is g.I.Source.outside g.W.Sink.outside c.loop-end.w v is.told)
    (subst (λ (o : Option Ended). StepLeaves c.args.patience g.I.Source.outside g.W.Sink.outside (entered (given_last v) (at_now g.I.Source.outside g.W.Sink.outside c.loop-end.w)) o v) c.in-Some.is is.leaves)

pub returns-in-Some-clause-keeps : goal.returns-in-Some-clause-keeps
returns-in-Some-clause-keeps g c = run_trans _ _ _ c.loop-end.invariant.keeps c.one-next.ensures.keeps

pub returns-in-Some-clause-grants : goal.returns-in-Some-clause-grants
returns-in-Some-clause-grants g c = goes_on_out_trans _ _ _ c.loop-end.invariant.grants c.one-next.ensures.grants
