use Rattle.std.proofs.Common.{◌≡◌, ◌-◌, ◌++◌, map}
use Rattle.run_letters.specs.Events.{letter_of}
use Rattle.run_letters.specs.Letters.{seed_letters}
use Rattle.run_letters.proofs.seeds.seeded.Given as goal

-- the letters that were made, and those still to come, are those of the seed
abbrev pub invariant-loop : goal.invariant-loop
invariant-loop l = map letter_of l.events.items ++ seed_letters (l.end - l.counter) l.x ≡ seed_letters l.end l.fn.seed
