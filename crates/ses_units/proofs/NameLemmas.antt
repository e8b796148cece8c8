-- A name is ASCII text, and 24 bytes hold it.
use Rattle.std.proofs.Common.{◌≡◌, ◌<◌, ◌≤◌, ℕ, true, List, ◌++◌, length, take, drop, replicate, ap, ◌∙◌, arith, rules, IsTrue, Result, Ok, Err, IsOk, MatchResult}
use Rattle.std.specs.List.{list_all}
use Rattle.std.specs.Str.{IsUtf8}
use Rattle.std.proofs.lemmas.Bool.Decides.{nat_tests}
use Rattle.std.proofs.lemmas.List.{take_at, drop-replicate}
use Rattle.std.proofs.lemmas.List.Sums.{AllPass-from_list_all}
use Rattle.std.proofs.lemmas.List.Elements.{All-weaker}
use Rattle.std.proofs.lemmas.Str.Ascii.{IsAscii-from_all}
use Rattle.std.proofs.lemmas.Str.{IsUtf8-from_ascii}
use Rattle.ses_units.specs.Name.{is_name, is_name_byte, HoldsName}

name_byte_ascii : (b : ℕ) → is_name_byte b ≡ true → b < 128
name_byte_ascii b h = grind (arith, nat_tests)

name_bytes : (bytes : List ℕ) → IsTrue (is_name bytes) → list_all is_name_byte bytes ≡ true
name_bytes bytes h = grind (arith, nat_tests)

name_short : (bytes : List ℕ) → IsTrue (is_name bytes) → length bytes ≤ 24
name_short bytes h = grind (arith, nat_tests)

pub IsUtf8-from_name : (bytes : List ℕ) → IsTrue (is_name bytes) → IsUtf8 bytes
IsUtf8-from_name bytes h =
    IsUtf8-from_ascii bytes (IsAscii-from_all bytes (All-weaker _ _ name_byte_ascii bytes (AllPass-from_list_all is_name_byte bytes (name_bytes bytes h))))

-- `from_utf8` accepts a text
pub IsOk-from_utf8 : {S E : Type 0} (P : S → Type 0) (Q : E → Type 0) (bytes : List ℕ) (r : Result S E) → MatchResult r P (λ e. (¬ IsUtf8 bytes) × Q e) → IsUtf8 bytes → IsOk r
IsOk-from_utf8 P Q bytes (Ok s) h utf8 = search rules
IsOk-from_utf8 P Q bytes (Err e) h utf8 = absurd (h.0 utf8)

-- a name written over the first of 24 zeros
pub HoldsName-written : (name written : List ℕ) → IsTrue (is_name name) → written ≡ name → HoldsName (written ++ drop (length name) (replicate 24 0)) (length name)
HoldsName-written name written h same =
    let front : take (length name) (written ++ drop (length name) (replicate 24 0)) ≡ name = take_at written (drop (length name) (replicate 24 0)) (length name) (ap length same) ∙ same in
    record {
      name = rw front h;
      full = rw (front, same, drop-replicate {X = ℕ} (length name) 24 0);
      long = ap length front;
    }
