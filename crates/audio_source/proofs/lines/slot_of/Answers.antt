use Rattle.std.proofs.Common.{◌∙◌, sym}
use Rattle.audio_source.proofs.SlotLaws as laws
use Rattle.audio_source.proofs.lines.slot_of.Goals as goal

pub returns-in-Some-held-clause-found : goal.returns-in-Some-held-clause-found
returns-in-Some-held-clause-found c = sym (c.loop-slot.invariant.found ∙ laws.found_first c.loop-slot.slot-iterator c.next.new.self c.in-Some.slot.now c.in-Some.held.now c.in-Some-held.held c.args.name
    c.in-Some-held.is c.in-Some.ensures.steps c.if-name-held.true c.if-name-held-2.true)
