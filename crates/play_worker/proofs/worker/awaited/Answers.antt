use Rattle.std.proofs.Common.{◌∙◌, ap, length}
use Rattle.ses_io.specs.FixedList.{Listed}
use Rattle.cycle_journal.specs.declared.entry.Entry.{Entry}
use Rattle.play_worker.proofs.PlaysLemmas as lemmas
use Rattle.play_worker.proofs.worker.awaited.Goals as goal

pub returns-clause-plays : goal.returns-clause-plays
returns-clause-plays g c = (lemmas.awaits g.I.Source.outside g.W.Sink.outside g.at c.args.patience c.args.w c.requires.1.1 (length c.entries.result.now) c.await_cycle.new.self
    (ap length c.entries.ensures.entries ∙ ap (λ (j : Listed Entry). length j.items) c.journal.ensures) c.await_cycle.ensures).0

pub returns-clause-may : goal.returns-clause-may
returns-clause-may g c = (lemmas.awaits g.I.Source.outside g.W.Sink.outside g.at c.args.patience c.args.w c.requires.1.1 (length c.entries.result.now) c.await_cycle.new.self
    (ap length c.entries.ensures.entries ∙ ap (λ (j : Listed Entry). length j.items) c.journal.ensures) c.await_cycle.ensures).1
