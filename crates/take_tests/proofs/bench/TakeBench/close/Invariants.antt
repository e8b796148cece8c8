-- The media tells nothing, so no clause speaks of files and input.
use Rattle.std.proofs.Common.{pos}
use Rattle.std.specs.Prelude.{None}
use Rattle.take_tests.proofs.bench.TakeBench.close.Given as goal

abbrev pub ghost-finish : goal.ghost-finish
ghost-finish g a = record { session = g.at; input = λ i c. pos 0; held = λ q. None }
