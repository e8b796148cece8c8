-- The words looked at so far, with those to come, are all of them.
use Rattle.std.proofs.Common.{◌≡◌, None, drop}
use Rattle.command_words.specs.Options.{few, parted}
use Rattle.command_words.specs.Spoken.{texts, few_from}
use Rattle.command_words.proofs.parts.parted.Given as goal

abbrev pub invariant-loop-word : goal.invariant-loop-word
invariant-loop-word l = few (parted (texts l.words) None) ≡ few_from l.found (texts (drop l.word-index l.words))
