-- The words among the parts so far are kept.
use Rattle.std.proofs.Common.{filter}
use Rattle.edit_script.specs.Words.{has_bytes}
use Rattle.edit_script.specs.Kept.{texts, Keeps}
use Rattle.edit_script.proofs.words.Words.of.Given as goal

abbrev pub invariant-loop-part : goal.invariant-loop-part
invariant-loop-part l = Keeps (filter has_bytes (texts l.yielded)) l.words
