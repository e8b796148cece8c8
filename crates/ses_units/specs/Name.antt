-- The rule for a name: 1 to 24 bytes of a-z, 0-9 and _, of which the first is a letter (own).
use Rattle.std.specs.Prelude.{◌≡◌, ℕ, ◌-◌, Bool, ◌||◌, ◌&&◌, ◌==◌, nat_le, IsTrue, List, ◌++◌, length, slice_index, take, replicate}
use Rattle.std.specs.List.{list_all}

abbrev pub is_letter : ℕ → Bool
is_letter b = nat_le 97 b && nat_le b 122

abbrev pub is_digit : ℕ → Bool
is_digit b = nat_le 48 b && nat_le b 57

abbrev pub is_name_byte : ℕ → Bool
is_name_byte b = is_letter b || is_digit b || b == 95

abbrev pub is_name : List ℕ → Bool
is_name bytes = nat_le 1 (length bytes) && nat_le (length bytes) 24 && is_letter (slice_index bytes 0) && list_all is_name_byte bytes

-- 24 bytes: a name, and zeros after it
abbrev pub padded : List ℕ → List ℕ
padded name = name ++ replicate (24 - length name) 0

-- so many of the bytes are a name, and zeros follow
pub record HoldsName (bytes : List ℕ) (size : ℕ) : Type 0 where
  pub name : IsTrue (is_name (take size bytes))
  pub full : bytes ≡ padded (take size bytes)
  pub long : length (take size bytes) ≡ size
