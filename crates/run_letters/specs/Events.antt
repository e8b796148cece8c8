-- The letters that events are.
use Rattle.machine_model.specs.Letters.{Letter, C, B, E, G, P}
use Rattle.run_letters.specs.declared.event.Event.{Event}
use Rattle.run_letters.specs.declared.event.Event.TheVariants.{Control, Butler, Enter, Gather, Cycle}

abbrev pub letter_of : Event → Letter
letter_of Control = C
letter_of Butler = B
letter_of Enter = E
letter_of Gather = G
letter_of Cycle = P
