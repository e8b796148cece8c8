-- What `parse` makes of decimal digits is the number that they stand for.
use Rattle.std.proofs.Common.{◌≡◌, ℕ, ◌<◌, ◌≤◌, ◌^◌, Bool, true, false, ◌&&◌, nat_le, List, [], ◌∷◌, length, Option, Some, None, Result, Ok, Err, refl, ap, sym, ◌∙◌, arith}
use Rattle.std.specs.Prelude.{if◌then◌else◌}
use Rattle.std.specs.Borrow.{Bor}
use Rattle.std.specs.List.{list_all}
use Rattle.std.specs.Char.{is_ascii_digit}
use Rattle.std.specs.Result.{MatchResult, result_ok, OkIff}
use Rattle.std.specs.Str.{IsUtf8, all_ascii_digits}
use Rattle.std.specs.Str.Parse.{ParsesUnsigned, digits_value}
use Rattle.std.proofs.lemmas.Bool.Decides.{nat_tests}
use Rattle.std.proofs.lemmas.Fmt.{IsAscii-from_digits}
use Rattle.std.proofs.lemmas.Str.{IsUtf8-from_ascii}
use Rattle.std.proofs.lemmas.Str.Parse.{IsNumeralModel, numerals_by_value, tells_all_ascii_digits, parse_digits}
use Rattle.edit_script.specs.Forms.{number, within, largest}

-- std's words for the texts of decimal digits and their value
pub numerals : IsNumeralModel (λ ds. all_ascii_digits ds ≡ true) (digits_value 10)
numerals = numerals_by_value (λ ds. all_ascii_digits ds ≡ true) tells_all_ascii_digits

pub all_digits : (word : List ℕ) → list_all is_ascii_digit word ≡ all_ascii_digits word
all_digits [] = refl
all_digits (b ∷ bs) = ap (λ others. is_ascii_digit b && others) (all_digits bs)

-- the text that bytes are
pub text_is : {E : Type 0} (bytes : List ℕ) (P : Type 0) (Q : E → Type 0) (r : Result (Bor (List ℕ)) E) (o : Option (Bor (List ℕ))) (text : Bor (List ℕ)) →
    MatchResult r (λ s. (s.now ≡ bytes) × P) Q → o ≡ result_ok r → o ≡ Some text → text.now ≡ bytes
text_is bytes P Q (Ok s) o text is made was = let same : text ≡ s = cc in ap (λ t. t.now) same ∙ is.0
text_is bytes P Q (Err e) o text is made was = absurd (cc)

-- both of two tests hold
pub left : (a b : Bool) → (a && b) ≡ true → a ≡ true
left true b h = refl
left false b h = h

pub right : (a b : Bool) → (a && b) ≡ true → b ≡ true
right true b h = h
right false b h = absurd (cc)

pub not_true : (a : Bool) → (a ≡ true → ⊥) → a ≡ false
not_true true never = absurd (never refl)
not_true false never = refl

pub IsUtf8-from_digits : (word : List ℕ) → (nat_le (length word) 20 && list_all is_ascii_digit word) ≡ true → IsUtf8 word
IsUtf8-from_digits word few = IsUtf8-from_ascii word (IsAscii-from_digits word (numerals.to word (sym (all_digits word) ∙ right (nat_le (length word) 20) (list_all is_ascii_digit word) few)))

in_range : (n : ℕ) → n < 2 ^ 64 → within 0 largest (Some n) ≡ Some n
in_range n small = grind (arith, nat_tests)

number_is : (word : List ℕ) → nat_le 1 (length word) ≡ true → nat_le (length word) 20 ≡ true → list_all is_ascii_digit word ≡ true → number word ≡ Some (digits_value 10 word)
number_is word some few digits = rw (some, few, digits) refl

-- where the value is out of range
out_of_range : (some few digits : Bool) (v : ℕ) → ((some ≡ true) → (v < 2 ^ 64) → ⊥) → within 0 largest (if some && few && digits then Some v else None) ≡ None
out_of_range false few digits v never = refl
out_of_range true false digits v never = refl
out_of_range true true false v never = refl
out_of_range true true true v never = let past : 2 ^ 64 ≤ v = omega (arith, never refl) in grind (arith, nat_tests)

too_large : (word : List ℕ) → (((0 < length word) × (digits_value 10 word < 2 ^ 64)) → ⊥) → within 0 largest (number word) ≡ None
too_large word never = out_of_range (nat_le 1 (length word)) (nat_le (length word) 20) (list_all is_ascii_digit word) (digits_value 10 word)
    (λ some small. never (grind (arith, nat_tests), small))

parsed_is : {E : Type 0} (word : List ℕ) (r : Result ℕ E) → nat_le (length word) 20 ≡ true → list_all is_ascii_digit word ≡ true →
    OkIff r ((0 < length word) × (digits_value 10 word < 2 ^ 64)) (digits_value 10 word) → result_ok r ≡ within 0 largest (number word)
parsed_is word (Ok n) few digits is = let some : nat_le 1 (length word) ≡ true = grind (arith, nat_tests, is.0.0) in
    ap (λ k. Some k) is.1 ∙ sym (ap (within 0 largest) (number_is word some few digits) ∙ in_range (digits_value 10 word) is.0.1)
parsed_is word (Err e) few digits never = sym (too_large word never)

pub parsed : {E : Type 0} (word : List ℕ) (r : Result ℕ E) → (nat_le (length word) 20 && list_all is_ascii_digit word) ≡ true → ParsesUnsigned 64 10 word r →
    result_ok r ≡ within 0 largest (number word)
parsed word r few parses = let digits = right (nat_le (length word) 20) (list_all is_ascii_digit word) few in
    parsed_is word r (left (nat_le (length word) 20) (list_all is_ascii_digit word) few) digits (parse_digits numerals 64 word r parses (sym (all_digits word) ∙ digits))
