use Rattle.std.specs.Prelude.{length}
use Rattle.process_cycle.proofs.process.Process.make.Given as goal

abbrev pub ghost-entry : goal.ghost-entry
ghost-entry g a = g.on.plays

abbrev pub ghost-read : goal.ghost-read
ghost-read g a = record { start = g.on.at.start; blocks = length g.on.entries }

abbrev pub ghost-write_block : goal.ghost-write_block
ghost-write_block g a = record { session = g.on.at.session; plays = g.on.plays }

abbrev pub ghost-capture_all : goal.ghost-capture_all
ghost-capture_all g a = g.on.entries
