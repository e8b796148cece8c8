use Rattle.process_cycle.specs.ProcessState.{entries_of}
use Rattle.process_cycle.proofs.process.Process.cycle.Given as goal

abbrev pub ghost-make : goal.ghost-make
ghost-make g a = record { at = g.at; plays = a.self.now.ends.plays.items; entries = entries_of a.self.now }
