use Rattle.std.proofs.Common.{◌≡◌, true, length, drop}
use Rattle.route_mix.specs.Blocks.{silence}
use Rattle.route_mix.proofs.sound.is_silent.Given as goal

-- where all so far is zero and what is left is too, all is
abbrev pub invariant-loop-sample : goal.invariant-loop-sample
invariant-loop-sample l = l.silent ≡ true → drop l.sample-index l.samples ≡ silence (length (drop l.sample-index l.samples)) → l.samples ≡ silence (length l.samples)
