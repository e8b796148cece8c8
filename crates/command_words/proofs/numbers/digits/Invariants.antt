-- The digits so far stand for n, and what is left goes on from it.
use Rattle.std.proofs.Common.{◌≡◌, ◌<◌, ◌^◌, drop}
use Rattle.command_words.specs.Words as spec
use Rattle.command_words.proofs.numbers.digits.Given as goal

abbrev pub invariant-loop-b : goal.invariant-loop-b
invariant-loop-b l = (spec.digits l.n (drop l.b-index l.word) ≡ spec.digits 0 l.word) × (l.n < 10 ^ l.b-index)
