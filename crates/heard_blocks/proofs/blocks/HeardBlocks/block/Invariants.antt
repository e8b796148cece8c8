use Rattle.cycle_journal.specs.JournalView.{seen_entry}
use Rattle.heard_blocks.proofs.blocks.HeardBlocks.block.Given as goal

abbrev pub ghost-rest : goal.ghost-rest
ghost-rest g a = g.judged.session

abbrev pub ghost-roll : goal.ghost-roll
ghost-roll g a = record { session = g.judged.session; before = g.judged.entries; entry = seen_entry a.entry.now }
