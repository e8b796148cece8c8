-- Worked values of the rule for file names.
use Rattle.std.proofs.Common.{◌≡◌, [], ◌∷◌, refl, true, false, replicate}
use Rattle.std.specs.Prelude.{codes}
use Rattle.session_model.specs.FileName.{is_file_name}

plain_name : is_file_name (codes "a.wav") ≡ true
plain_name = refl

any_byte_but_two : is_file_name (1 ∷ 32 ∷ 255 ∷ []) ≡ true
any_byte_but_two = refl

no_byte : is_file_name [] ≡ false
no_byte = refl

slash : is_file_name (codes "takes/a.wav") ≡ false
slash = refl

zero_byte : is_file_name (97 ∷ 0 ∷ []) ≡ false
zero_byte = refl

the_folder : is_file_name (codes ".") ≡ false
the_folder = refl

the_folder_above : is_file_name (codes "..") ≡ false
the_folder_above = refl

three_dots : is_file_name (codes "...") ≡ true
three_dots = refl

longest : is_file_name (replicate 255 97) ≡ true
longest = refl

too_long : is_file_name (replicate 256 97) ≡ false
too_long = refl
