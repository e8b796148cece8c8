use Rattle.std.proofs.Common.{rules}
use Rattle.std.specs.NonZero.{non_zero_usize_get}
use Rattle.audio_source.proofs.SlotLaws as laws
use Rattle.audio_source.proofs.SlotLaws.{AreMade}
use Rattle.audio_source.proofs.lines.empty_slots.Goals as goal

pub loop-slot-init : goal.loop-slot-init
loop-slot-init c = laws.made_none c.in_ok-slots.slots (non_zero_usize_get c.unwrap.result) c.in_ok-slots.ensures (search rules)

pub loop-slot-preserved : goal.loop-slot-preserved
loop-slot-preserved c = laws.made_more c.loop-slot.slots c.put.new.self c.loop-slot.slot c.loop-slot.invariant c.loop-slot-test.true c.in_ok-put.ensures.entries

pub returns-clause-empty : goal.returns-clause-empty
returns-clause-empty c = c.loop-slot.invariant.empty

pub returns-clause-slots : goal.returns-clause-slots
returns-clause-slots c = laws.made_slots c.loop-slot.slots c.loop-slot.slot c.loop-slot.invariant c.loop-slot.auto.slot-end c.loop-slot-test.false
