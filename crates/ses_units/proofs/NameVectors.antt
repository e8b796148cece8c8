-- Worked names.
use Rattle.std.proofs.Common.{◌≡◌, true, false, [], refl, replicate}
use Rattle.std.specs.Prelude.{codes}
use Rattle.ses_units.specs.Name.{is_name}

letters_digits_and_lines : is_name (codes "drum_2") ≡ true
letters_digits_and_lines = refl

one_letter : is_name (codes "a") ≡ true
one_letter = refl

the_longest : is_name (replicate 24 122) ≡ true
the_longest = refl

too_long : is_name (replicate 25 122) ≡ false
too_long = refl

no_byte : is_name [] ≡ false
no_byte = refl

a_digit_first : is_name (codes "2nd") ≡ false
a_digit_first = refl

a_line_first : is_name (codes "_a") ≡ false
a_line_first = refl

a_capital : is_name (codes "drumS") ≡ false
a_capital = refl

a_dash : is_name (codes "drum-2") ≡ false
a_dash = refl
