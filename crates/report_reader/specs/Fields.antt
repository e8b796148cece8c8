-- What stands at the front of a text, and what is left behind it (own).
use Rattle.std.specs.Prelude.{ℕ, ◌&&◌, ◌==◌, nat_le, nat_lt, if◌then◌else◌, List, [], ◌∷◌, length, get_or, take, drop, Option, Some, None, option_and_then}
use Rattle.std.specs.Borrow.{Bor}
use Rattle.std.specs.Char.{is_ascii_digit}
use Rattle.std.specs.List.{prefix_len}
use Rattle.edit_script.specs.Forms.{number, within, largest}

-- what is read, and the text behind it
abbrev pub Read : Type 0 → Type 0
Read A = Option (A × List ℕ)

infixl 10 ◌>>=◌
abbrev pub ◌>>=◌ : {A B : Type 0} → Option A → (A → Option B) → Option B
o >>= f = option_and_then f o

-- what code read, as a view has it
abbrev pub seen : {A B : Type 0} → (A → B) → A × Bor (List ℕ) → B × List ℕ
seen view x = (view x.0, x.1.now)

abbrev pub same : {A : Type 0} → A → A
same x = x

-- where there is something, what is made of it; else the other
abbrev pub chosen : {A B : Type 0} → Option A → (A → B) → B → B
chosen (Some x) made other = made x
chosen None made other = other

-- what stands behind a text
abbrev pub after : List ℕ → List ℕ → Option (List ℕ)
after [] bytes = Some bytes
after (t ∷ text) [] = None
after (t ∷ text) (b ∷ bytes) = if b == t then after text bytes else None

-- the number that a word is: digits, with no zero before others, and 64 bits hold it
unfoldable pub numeral : List ℕ → Option ℕ
numeral word = if nat_lt 1 (length word) && get_or word 0 0 == 48 then None else within 0 largest (number word)

-- so many digits stand in front
abbrev pub digits : List ℕ → ℕ
digits bytes = prefix_len is_ascii_digit bytes

-- a number from a least to a most; it is all the digits that stand in front
unfoldable pub number_in : ℕ → ℕ → List ℕ → Read ℕ
number_in least most bytes = do
  n ← numeral (take (digits bytes) bytes)
  if nat_le least n && nat_le n most then Some (n, drop (digits bytes) bytes) else None

-- a text, and a number behind it
unfoldable pub numbered : List ℕ → ℕ → ℕ → List ℕ → Read ℕ
numbered text least most bytes = do
  rest ← after text bytes
  number_in least most rest
