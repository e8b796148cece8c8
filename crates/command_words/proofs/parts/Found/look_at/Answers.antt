-- Behind the marker each word is positional.
use Rattle.std.proofs.Common.{Some}
use Rattle.command_words.specs.Options.{marked}
use Rattle.command_words.proofs.parts.Found.look_at.Goals as goal

pub returns-in-Marked : goal.returns-in-Marked
returns-in-Marked c = λ rest. rw c.in-Marked.is (c.add_positional.ensures (Some (marked rest)))
