-- The bits of a file as the definitions of the sound count them.
use Rattle.std.specs.Prelude.{ℕ}
use Rattle.ses_units.specs.declared.bits.Bits.{Bits}
use Rattle.ses_units.specs.declared.bits.Bits.TheVariants.{B16, B24}

abbrev pub bits_of : Bits → ℕ
bits_of B16 = 16
bits_of B24 = 24
