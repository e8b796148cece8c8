use Rattle.process_cycle.proofs.PutLemmas.{PutBelow}
use Rattle.process_cycle.proofs.putting.put_blocks.Given as goal

abbrev pub ghost-heard_block : goal.ghost-heard_block
ghost-heard_block g a = g.on.plays

abbrev pub ghost-put_block : goal.ghost-put_block
ghost-put_block g a = g.on.session

abbrev pub ghost-quiet : goal.ghost-quiet
ghost-quiet g a = g.on.session

-- the tracks before this one were put
abbrev pub invariant-loop-t : goal.invariant-loop-t
invariant-loop-t g l = PutBelow g.on l.at l.fn.master l.master l.t
