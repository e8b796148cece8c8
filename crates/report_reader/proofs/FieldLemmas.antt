-- A field that is read is what stood there, and what stands there is read.
use Rattle.std.proofs.Common.{◌≡◌, ℕ, ◌^◌, ◌<◌, ◌≤◌, Bool, true, false, ◌&&◌, ◌==◌, nat_le, nat_lt, List, [], ◌∷◌, ◌++◌, length, get_or, take, drop, Option, Some, None, MatchOption, option_map, decimal, ◌≢◌, ◌⊎◌, inl, inr, refl, sym, ap, subst, ◌∙◌, arith, take_at, drop_at, take-append-drop, eq-eqb, eqb-true, le-leb, leb-true, ltb-false, ne_eqb}
use Rattle.std.specs.Prelude.{if◌then◌else◌}
use Rattle.std.specs.Borrow.{Bor}
use Rattle.std.specs.Char.{is_ascii_digit}
use Rattle.std.specs.List.{list_all}
use Rattle.std.specs.Str.Parse.{digits_value}
use Rattle.std.proofs.lemmas.Bool.{cases_lt}
use Rattle.std.proofs.lemmas.Fmt.{digits_decimal, digits_value-decimal, decimal-digits_value, decimal_digit, first_decimal, decimal_nonempty, length-decimal-le}
use Rattle.std.proofs.lemmas.Option.{same_Some, cond_some}
use Rattle.session_model.specs.Formed.{IsBetween}
use Rattle.edit_script.specs.Forms.{number, within, largest}
use Rattle.edit_script.proofs.NumberLemmas.{numerals, all_digits, left, right}
use Rattle.report_reader.specs.Fields.{◌>>=◌, chosen, after, numeral, digits, number_in, numbered}

-- ---- steps that gave something

pub some_of : {A B : Type 0} (o : Option A) (f : A → Option B) (y : B) → (o >>= f) ≡ Some y → (x : A) × (o ≡ Some x) × (f x ≡ Some y)
some_of (Some x) f y e = (x, refl, e)
some_of None f y e = absurd (cc)

pub chosen_some : {A B : Type 0} (o : Option A) (f : A → Option B) (other : Option B) (y : B) → chosen o f other ≡ Some y →
    ((x : A) × (o ≡ Some x) × (f x ≡ Some y)) ⊎ (other ≡ Some y)
chosen_some (Some x) f other y e = inl (x, refl, e)
chosen_some None f other y e = inr e

pub if_some : {A : Type 0} (b : Bool) (o : Option A) (x : A) → (if b then o else None) ≡ Some x → (b ≡ true) × (o ≡ Some x)
if_some true o x e = (refl, e)
if_some false o x e = absurd (cc)

unless_some : {A : Type 0} (b : Bool) (o : Option A) (x : A) → (if b then None else o) ≡ Some x → (b ≡ false) × (o ≡ Some x)
unless_some true o x e = absurd (cc)
unless_some false o x e = (refl, e)

none_if : {A : Type 0} (o : Option A) → ((x : A) → o ≡ Some x → ⊥) → o ≡ None
none_if (Some x) never = absurd (never x refl)
none_if None never = refl

-- ---- a text

pub after_is : (text bytes rest : List ℕ) → after text bytes ≡ Some rest → bytes ≡ text ++ rest
after_is [] bytes rest e = same_Some bytes rest e
after_is (t ∷ text) [] rest e = absurd (cc)
after_is (t ∷ text) (b ∷ bytes) rest e = let g = if_some (b == t) (after text bytes) rest e in
    ap (λ (n : ℕ). n ∷ bytes) (eqb-true b t g.0) ∙ ap (λ (l : List ℕ). t ∷ l) (after_is text bytes rest g.1)

pub after_again : (text rest : List ℕ) → after text (text ++ rest) ≡ Some rest
after_again [] rest = refl
after_again (t ∷ text) rest = rw (eq-eqb t t refl) (after_again text rest)

pub after_of : (text bytes : List ℕ) (r : Option (Bor (List ℕ))) → MatchOption r ((rest : List ℕ) → bytes ≢ text ++ rest) (λ x. bytes ≡ text ++ x.now) → option_map (λ x. x.now) r ≡ after text bytes
after_of text bytes (Some x) is = sym (ap (after text) is ∙ after_again text x.now)
after_of text bytes None never = sym (none_if (after text bytes) (λ rest e. never rest (after_is text bytes rest e)))

-- ---- numerals

within_some : (least most : ℕ) (o : Option ℕ) (n : ℕ) → within least most o ≡ Some n → (o ≡ Some n) × (n ≤ most)
within_some least most (Some m) n e = let g = cond_some (nat_le least m && nat_le m most) m n e in
    let high : m ≤ most = leb-true m most (right (nat_le least m) (nat_le m most) g.0) in (ap (λ k. Some k) g.1, subst (λ k. k ≤ most) g.1 high)
within_some least most None n e = absurd (cc)

one_digit : (word : List ℕ) → (nat_lt 1 (length word) && get_or word 0 0 == 48) ≡ false → 0 < length word → get_or word 0 0 ≡ 48 → length word ≡ 1
one_digit word plain some is =
    let both : (nat_lt 1 (length word) && true) ≡ false = ap (λ b. nat_lt 1 (length word) && b) (sym (eq-eqb (get_or word 0 0) 48 is)) ∙ plain in
    let long : nat_lt 1 (length word) ≡ false = and_true (nat_lt 1 (length word)) both in
    omega (arith, ltb-false 1 (length word) long)
  where
    and_true : (b : Bool) → (b && true) ≡ false → b ≡ false
    and_true true e = e
    and_true false e = refl

pub numeral_is : (word : List ℕ) (n : ℕ) → numeral word ≡ Some n → (decimal n ≡ word) × (n < 2 ^ 64)
unfolding numeral
numeral_is word n e =
    let g = unless_some (nat_lt 1 (length word) && get_or word 0 0 == 48) (within 0 largest (number word)) n e in
    let w = within_some 0 largest (number word) n g.1 in
    let v = cond_some (nat_le 1 (length word) && nat_le (length word) 20 && list_all is_ascii_digit word) (digits_value 10 word) n w.0 in
    let ds : list_all is_ascii_digit word ≡ true = right (nat_le 1 (length word) && nat_le (length word) 20) (list_all is_ascii_digit word) v.0 in
    let long : nat_le 1 (length word) ≡ true = left (nat_le 1 (length word)) (nat_le (length word) 20) (left (nat_le 1 (length word) && nat_le (length word) 20) (list_all is_ascii_digit word) v.0) in
    let some : 0 < length word = omega (arith, leb-true 1 (length word) long) in
    let small : n < 2 ^ 64 = omega (arith, w.1) in
    let same : decimal (digits_value 10 word) ≡ word = decimal-digits_value numerals word (sym (all_digits word) ∙ ds) some (one_digit word g.0 some) (subst (λ k. k < 2 ^ 64) (sym v.1) small) in
    (ap decimal (sym v.1) ∙ same, small)

no_zero : (n : ℕ) → n < 2 ^ 64 → (nat_lt 1 (length (decimal n)) && get_or (decimal n) 0 0 == 48) ≡ false
no_zero n small = elim (cases_lt 0 n) [
  | inl more ↦ let first : 48 < get_or (decimal n) 0 0 = first_decimal n more small in
      let other : (get_or (decimal n) 0 0 == 48) ≡ false = ne_eqb (get_or (decimal n) 0 0) 48 (λ is. omega (arith, first, is)) in
      ap (λ b. nat_lt 1 (length (decimal n)) && b) other ∙ and_false (nat_lt 1 (length (decimal n)))
  | inr none ↦ let is : n ≡ 0 = omega (arith, none) in
      ap (λ k. nat_lt 1 (length (decimal k)) && get_or (decimal k) 0 0 == 48) is ∙ ap (λ word. nat_lt 1 (length word) && get_or word 0 0 == 48) (decimal_digit 0 (omega arith))
]
  where
    and_false : (b : Bool) → (b && false) ≡ false
    and_false true = refl
    and_false false = refl

pub numeral_again : (n : ℕ) → n < 2 ^ 64 → numeral (decimal n) ≡ Some n
unfolding numeral
numeral_again n small =
    let ds : list_all is_ascii_digit (decimal n) ≡ true = all_digits (decimal n) ∙ digits_decimal numerals n small in
    let some : nat_le 1 (length (decimal n)) ≡ true = le-leb 1 (length (decimal n)) (omega (arith, decimal_nonempty n small)) in
    let few : nat_le (length (decimal n)) 20 ≡ true = le-leb (length (decimal n)) 20 (length-decimal-le 20 n (omega arith) (omega (arith, small)) small) in
    let high : nat_le n largest ≡ true = le-leb n largest (omega (arith, small)) in
    let low : nat_le 0 n ≡ true = le-leb 0 n (omega arith) in
    rw (no_zero n small, some, few, ds, digits_value-decimal numerals n small, low, high) refl

-- ---- a number in front

-- all the digits in front are digits of the number
all_in_front : (word rest : List ℕ) → list_all is_ascii_digit word ≡ true → digits rest ≡ 0 → digits (word ++ rest) ≡ length word
all_in_front [] rest ds none = none
all_in_front (b ∷ word) rest ds none =
    let more : digits (word ++ rest) ≡ length word = all_in_front word rest (right (is_ascii_digit b) (list_all is_ascii_digit word) ds) none in
    rw (left (is_ascii_digit b) (list_all is_ascii_digit word) ds, more) (omega arith)

-- what was read: the field, with what its numbers keep, and the rest
abbrev pub IsRead : {A : Type 0} → (A → List ℕ) → (A → Type 0) → List ℕ → A × List ℕ → Type 0
IsRead text Is bytes x = (bytes ≡ text x.0 ++ x.1) × Is x.0

pub number_is : (least most : ℕ) (bytes : List ℕ) (x : ℕ × List ℕ) → number_in least most bytes ≡ Some x → IsRead decimal (λ n. IsBetween least n most) bytes x
unfolding number_in
number_is least most bytes x e =
    let k = digits bytes in
    let s = some_of (numeral (take k bytes)) (λ n. if nat_le least n && nat_le n most then Some (n, drop k bytes) else None) x e in
    let g = cond_some (nat_le least s.0 && nat_le s.0 most) (s.0, drop k bytes) x s.2 in
    let cut : bytes ≡ decimal s.0 ++ drop k bytes = sym (take-append-drop k bytes) ∙ ap (λ (w : List ℕ). w ++ drop k bytes) (sym (numeral_is (take k bytes) s.0 s.1).0) in
    let between : IsBetween least s.0 most = record {
      least = leb-true least s.0 (left (nat_le least s.0) (nat_le s.0 most) g.0);
      most = leb-true s.0 most (right (nat_le least s.0) (nat_le s.0 most) g.0);
    } in
    subst (λ (y : ℕ × List ℕ). IsRead decimal (λ n. IsBetween least n most) bytes y) g.1 (cut, between)

pub number_again : (least most n : ℕ) (rest : List ℕ) → IsBetween least n most → n < 2 ^ 64 → digits rest ≡ 0 → number_in least most (decimal n ++ rest) ≡ Some (n, rest)
unfolding number_in
number_again least most n rest between small none =
    let k : digits (decimal n ++ rest) ≡ length (decimal n) = all_in_front (decimal n) rest (all_digits (decimal n) ∙ digits_decimal numerals n small) none in
    rw (k, take_at (decimal n) rest (length (decimal n)) refl, drop_at (decimal n) rest (length (decimal n)) refl, numeral_again n small, le-leb least n between.least, le-leb n most between.most) refl

pub numbered_is : (text : List ℕ) (least most : ℕ) (bytes : List ℕ) (x : ℕ × List ℕ) → numbered text least most bytes ≡ Some x → (bytes ≡ text ++ (decimal x.0 ++ x.1)) × IsBetween least x.0 most
unfolding numbered
numbered_is text least most bytes x e =
    let s = some_of (after text bytes) (number_in least most) x e in
    let n = number_is least most s.0 x s.2 in
    (after_is text bytes s.0 s.1 ∙ ap (λ (r : List ℕ). text ++ r) n.0, n.1)

pub numbered_again : (text : List ℕ) (least most n : ℕ) (rest : List ℕ) → IsBetween least n most → n < 2 ^ 64 → digits rest ≡ 0 → numbered text least most (text ++ (decimal n ++ rest)) ≡ Some (n, rest)
unfolding numbered
numbered_again text least most n rest between small none =
    ap (λ o. o >>= number_in least most) (after_again text (decimal n ++ rest)) ∙ number_again least most n rest between small none
