use Rattle.std.proofs.Common.{◌∙◌, refl, subst, inl, inr, arith}
use Rattle.process_cycle.specs.ProcessState.{entered}
use Rattle.play_worker.specs.Patient.{AllEndAfter}
use Rattle.play_worker.proofs.PatientLemmas as patient
use Rattle.play_worker.proofs.KeptLemmas as kept
use Rattle.play_worker.proofs.looks.look_up.Goals as goal

pub again-look-requires : goal.again-look-requires
again-look-requires g c κs within = (
  within.0,
  (
    within.1,
    (
      patient.may_look_again g.I.Source.outside g.at c.loop-look.process c.args.e.now c.requires.1.1.1.0.edition
          c.loop-look.invariant.playing,
      c.loop-look.invariant.mastered,
    ),
  ),
)

pub loop-look-init : goal.loop-look-init
loop-look-init g c = let is = c.gather-look.ensures in record {
  playing = is.playing;
  looked = is.looked;
  keeps = is.keeps;
  mastered = is.master c.requires.1.1.1.1;
  looks = patient.all_first g.I.Source.outside g.at c.args.process.now c.gather-look.new.self c.args.e.now is.looks;
  many = is.looks.many;
  rings = patient.rings_on g.I.Source.outside (entered c.args.e.now.edits g.at) c.args.process.now c.args.process.now c.gather-look.new.self c.args.e.now is.playing refl
      (patient.rings_first g.I.Source.outside g.at c.args.process.now) is.looks;
  ready = patient.ready_by g.I.Source.outside g.at c.args.e.now.transport.rolling c.args.process.now c.gather-look.new.self c.gather-look.result is.answer;
}

pub loop-look-preserved : goal.loop-look-preserved
loop-look-preserved g c = let is = c.again-look.ensures in let so = c.loop-look.invariant in record {
  playing = is.playing;
  looked = is.looked;
  keeps = kept.keeps_trans c.args.process.now c.loop-look.process c.again-look.new.process so.keeps is.keeps;
  mastered = is.mastered;
  looks = subst (λ n. AllEndAfter n c.args.process.now c.again-look.new.process) (omega arith) (patient.all_more g.I.Source.outside (entered c.args.e.now.edits g.at) c.loop-look._look c.args.process.now c.loop-look.process
      c.again-look.new.process c.args.e.now so.playing is.playing is.keeps so.many so.looks is.looks);
  many = is.looks.many ∙ so.many;
  rings = patient.rings_on g.I.Source.outside (entered c.args.e.now.edits g.at) c.args.process.now c.loop-look.process c.again-look.new.process c.args.e.now is.playing so.many so.rings is.looks;
  ready = patient.ready_by g.I.Source.outside g.at c.args.e.now.transport.rolling c.loop-look.process c.again-look.new.process c.again-look.result is.answer;
}

pub returns-then-is_ready-clause-patient : goal.returns-then-is_ready-clause-patient
returns-then-is_ready-clause-patient g c rolls = inl (c.loop-look.invariant.ready (c.is_ready.ensures c.if-is_ready.true) rolls)

pub returns-clause-patient : goal.returns-clause-patient
returns-clause-patient g c rolls = let so = c.loop-look.invariant in inr (inr (patient.all_looked_for g.I.Source.outside (entered c.args.e.now.edits g.at) c.args.patience c.args.process.now c.loop-look.process so.playing so.many
    (subst (λ n. AllEndAfter n c.args.process.now c.loop-look.process) (let most = c.loop-look.auto._look-end in let test = c.loop-look-test.false in omega (arith, most, test)) so.looks)))
