use Rattle.std.proofs.Common.{◌∙◌, sym, ap}
use Rattle.edition_log.specs.EditionState.{EditionState}
use Rattle.locate_loop.specs.declared.transport.Transport.{Transport}
use Rattle.play_worker.proofs.KeptLemmas.{run_refl}
use Rattle.play_worker.proofs.PlaysLemmas as lemmas
use Rattle.play_worker.proofs.worker.in_edition.Goals as goal

pub returns-then-transport-clause-leaves : goal.returns-then-transport-clause-leaves
returns-then-transport-clause-leaves g c = (
  lemmas.by_number g.I.Source.outside g.W.Sink.outside g.at c.args.patience c.args.w c.requires.1.1.1.0,
  ap (λ (e : EditionState). e.transport.quit) (sym c.edition.ensures) ∙ sym (ap (λ (t : Transport). t.quit) c.transport.ensures.transport) ∙ c.if-transport.true,
)

pub returns-in-Ok-clause-leaves : goal.returns-in-Ok-clause-leaves
returns-in-Ok-clause-leaves g c = let is = c.play_cycle-answer.ensures in
    (lemmas.made_in g.I.Source.outside g.W.Sink.outside g.at c.args.patience c.args.w c.requires.1.1.1.0 c.play_cycle-answer.new.process c.requires.1.1.1.1 c.play_cycle-answer.result c.edition-2.result.now
    c.edition-2.ensures is.cycle is.patient c.in-Ok.field-0 c.in-Ok.is is.playing is.mastered).0

pub returns-in-Ok-clause-made : goal.returns-in-Ok-clause-made
returns-in-Ok-clause-made g c none = let is = c.play_cycle-answer.ensures in
    (lemmas.made_in g.I.Source.outside g.W.Sink.outside g.at c.args.patience c.args.w c.requires.1.1.1.0 c.play_cycle-answer.new.process c.requires.1.1.1.1 c.play_cycle-answer.result c.edition-2.result.now
    c.edition-2.ensures is.cycle is.patient c.in-Ok.field-0 c.in-Ok.is is.playing is.mastered).1

pub returns-in-Err-clause-leaves : goal.returns-in-Err-clause-leaves
returns-in-Err-clause-leaves g c = let is = c.play_cycle-answer.ensures in (
  lemmas.stopped_in g.I.Source.outside g.W.Sink.outside g.at c.args.patience c.args.w c.requires.1.1.1.0 c.play_cycle-answer.new.process c.requires.1.1.1.1 c.play_cycle-answer.result c.edition-2.result.now
      c.edition-2.ensures is.cycle is.patient c.in-Err.fault c.in-Err.is,
  lemmas.stops_in g.I.Source.outside g.W.Sink.outside g.at c.args.patience c.args.w c.requires.1.1.1.0 c.play_cycle-answer.new.process c.requires.1.1.1.1 c.play_cycle-answer.result c.edition-2.result.now
      c.edition-2.ensures is.cycle is.patient c.in-Err.fault c.in-Err.is,
)

pub returns-then-transport-clause-keeps : goal.returns-then-transport-clause-keeps
returns-then-transport-clause-keeps g c = run_refl _

pub returns-in-Ok-clause-keeps : goal.returns-in-Ok-clause-keeps
returns-in-Ok-clause-keeps g c = let is = c.play_cycle-answer.ensures in
    lemmas.keeps_in g.I.Source.outside g.W.Sink.outside g.at c.args.patience c.args.w c.requires.1.1.1.0 c.play_cycle-answer.new.process c.requires.1.1.1.1 c.play_cycle-answer.result c.edition-2.result.now
    c.edition-2.ensures is.cycle is.patient

pub returns-in-Err-clause-keeps : goal.returns-in-Err-clause-keeps
returns-in-Err-clause-keeps g c = let is = c.play_cycle-answer.ensures in
    lemmas.keeps_in g.I.Source.outside g.W.Sink.outside g.at c.args.patience c.args.w c.requires.1.1.1.0 c.play_cycle-answer.new.process c.requires.1.1.1.1 c.play_cycle-answer.result c.edition-2.result.now
    c.edition-2.ensures is.cycle is.patient
