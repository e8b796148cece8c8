use Rattle.std.proofs.Common.{sym, subst, ◌∙◌}
use Rattle.ses_io.specs.Faults.{HasCause}
use Rattle.play_worker.specs.Leaves.{MasterStands, master_answered}
use Rattle.play_worker.proofs.MasterEndLemmas as lemmas
use Rattle.play_worker.proofs.playing.finished.Goals as goal

-- src/playing.rt
pub returns : goal.returns
returns g c = let I = g.I.Source.outside in let W = g.W.Sink.outside in let w = c.args.w in let asked = c.requires.1.1.1.1 in let uncut = sym c.is_cut.ensures ∙ c.if-is_cut.false in record {
  ends = lemmas.is_ended I W g.at w c.silence.new.self c.silence.ensures.same (subst (λ cut. MasterStands I W g.at cut w.process) uncut asked.0)
      (subst (λ cut. HasCause (W.faults w.told.sink.value) (W.faults w.process.master.sink) (master_answered cut)) uncut asked.1)
      c.args.ended uncut c.silence.result c.silence.ensures.writes c.is_err-cut_off.result c.is_err-cut_off.ensures.value;
}
