use Rattle.audio_source.proofs.SlotLaws.{AreMade}
use Rattle.audio_source.proofs.lines.empty_slots.Given as goal

-- the slots below this one are there, and none has a line
abbrev pub invariant-loop-slot : goal.invariant-loop-slot
invariant-loop-slot l = AreMade l.slots l.slot
