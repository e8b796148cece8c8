-- No clause that is used here speaks of files and blocks.
use Rattle.std.proofs.Common.{[]}
use Rattle.std.specs.Prelude.{None}
use Rattle.take_tests.proofs.bench.TakeBench.block.Given as goal

abbrev pub ghost-block : goal.ghost-block
ghost-block g a = record { session = g.at; held = λ q. None; blocks = λ t. [] }
