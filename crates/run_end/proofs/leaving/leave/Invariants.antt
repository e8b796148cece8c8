use Rattle.cycle_journal.specs.JournalView.{seen_entries}
use Rattle.run_end.specs.Takes.{recorded_of}
use Rattle.run_end.proofs.HeardLemmas.{heard_back}
use Rattle.run_end.proofs.leaving.leave.Given as goal

abbrev pub ghost-drain : goal.ghost-drain
ghost-drain g a = g.on

abbrev pub ghost-part : goal.ghost-part
ghost-part g a = recorded_of g.on.begun (heard_back g.on.begun.session (seen_entries a.rest.stopped.journal.items) a.rest.ending.ends.takes.items)
