-- What stands at a key is read as it was written.
use Rattle.std.proofs.Common.{◌≡◌, ℕ, ◌≤◌, true, nat_le, refl, arith, Some}
use Rattle.std.specs.Prelude.{pos}
use Rattle.std.proofs.lemmas.Bool.Decides.{nat_tests}
use Rattle.ses_units.specs.Bits.{bits_of}
use Rattle.ses_units.specs.declared.bits.Bits.{Bits}
use Rattle.ses_units.specs.declared.bits.Bits.TheVariants.{B16, B24}
use Rattle.ses_units.specs.declared.mode.Mode.{Mode}
use Rattle.ses_units.specs.declared.mode.Mode.TheVariants.{Manual, Play}
use Rattle.ses_units.specs.declared.shape.Shape.{Shape}
use Rattle.ses_units.specs.declared.shape.Shape.TheVariants.{Linear, Slow}
use Rattle.session_walk.specs.declared.said.Version.{Version}
use Rattle.session_walk.specs.declared.said.Version.TheVariants.{One, Two}
use Rattle.session_walk.specs.Values.{in_range, bits_in, version_in, mode_in, shape_in}
use Rattle.session_walk.specs.Says.{version_number, mode_word, shape_word}

pub below : (m n : ℕ) → m ≤ n → nat_le m n ≡ true
below m n h = grind (arith, nat_tests)

pub ranged : (low high n : ℕ) → low ≤ n → n ≤ high → in_range low high (pos n) ≡ Some n
ranged low high n least most = rw (below low n least, below n high most) refl

pub version-read : (v : Version) → version_in (pos (version_number v)) ≡ Some v
version-read One = refl
version-read Two = refl

pub bits-read : (b : Bits) → bits_in (pos (bits_of b)) ≡ Some b
bits-read B16 = refl
bits-read B24 = refl

pub mode-read : (m : Mode) → mode_in (mode_word m) ≡ Some m
mode-read Manual = refl
mode-read Play = refl

pub shape-read : (s : Shape) → shape_in (shape_word s) ≡ Some s
shape-read Linear = refl
shape-read Slow = refl
