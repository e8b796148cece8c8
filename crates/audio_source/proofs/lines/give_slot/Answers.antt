use Rattle.std.proofs.Common.{◌∙◌, sym, ap}
use Rattle.std.specs.Option.{option_copied_mut}
use Rattle.audio_source.proofs.SlotLaws as laws
use Rattle.audio_source.proofs.lines.give_slot.Goals as goal

pub returns-in-Some-clause-used : goal.returns-in-Some-clause-used
returns-in-Some-clause-used c = laws.given_used c.args.slots.now.entries c.args.slot c.args.name c.requires.slots c.requires.last

pub returns-in-Some-clause-slots : goal.returns-in-Some-clause-slots
returns-in-Some-clause-slots c = laws.given_slots c.args.slots.now.entries c.args.slot c.args.name c.requires.slots c.requires.last

pub returns-in_default-clause-used : goal.returns-in_default-clause-used
returns-in_default-clause-used c = absurd (laws.given_found c.args.slots.now.entries c.args.slot c.args.name c.requires.slots c.requires.last
    (sym c.get_mut.ensures.value ∙ ap option_copied_mut c.in_default.is))
