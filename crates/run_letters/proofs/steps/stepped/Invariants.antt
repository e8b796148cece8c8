use Rattle.std.proofs.Common.{◌≡◌, map, take}
use Rattle.run_letters.specs.Events.{letter_of}
use Rattle.run_letters.specs.Letters.{letters_in}
use Rattle.run_letters.proofs.steps.stepped.Given as goal

abbrev pub invariant-loop-letter : goal.invariant-loop-letter
invariant-loop-letter l = map letter_of l.events.items ≡ letters_in (take l.letter-index l.letter-items)
