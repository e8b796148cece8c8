-- The rule for the name of a source's file: a name in the session's folder, and no path (own).
use Rattle.std.specs.Prelude.{ℕ, Bool, not, ◌||◌, ◌&&◌, ◌==◌, nat_le, List, length, codes}
use Rattle.std.specs.List.{list_all}
use Rattle.std.specs.Str.{bytes_eq}

-- neither zero nor `/`
abbrev pub is_file_byte : ℕ → Bool
is_file_byte b = not (b == 0 || b == 47)

-- 1 to 255 such bytes, and neither the folder itself nor the one above it
abbrev pub is_file_name : List ℕ → Bool
is_file_name bytes = nat_le 1 (length bytes) && nat_le (length bytes) 255 && list_all is_file_byte bytes
    && not (bytes_eq bytes (codes ".")) && not (bytes_eq bytes (codes ".."))
