use Rattle.std.proofs.Common.{◌≡◌, ℕ, zero, suc, ◌+◌, ◌<◌, length, sym, ◌∙◌, arith}
use Rattle.sound_tests.proofs.desks.mix_four.Goals as goal

pub mix-requires-clause-places : goal.mix-requires-clause-places
mix-requires-clause-places c = sym (c.requires.desk.block ∙ c.requires.block)

pub mix-requires-clause-near : goal.mix-requires-clause-near
mix-requires-clause-near c zero d h = omega (arith, c.requires.near)
mix-requires-clause-near c (suc zero) d h = omega (arith, c.requires.near)
mix-requires-clause-near c (suc (suc zero)) d h = omega (arith, c.requires.near)
mix-requires-clause-near c (suc (suc (suc zero))) d h = omega (arith, c.requires.near)
mix-requires-clause-near c (suc (suc (suc (suc k)))) d h = absurd (omega (arith, h))
