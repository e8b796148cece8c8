-- Files in memory, as a list in which the first of a name counts, and the places where calls fail.
use Rattle.std.specs.Prelude.{ℕ, Bool, ◌&&◌, ◌||◌, ◌==◌, nat_eq, nat_le, List, [], ◌∷◌, length, find, if◌then◌else◌}
use Rattle.std.specs.Option.{option_map}
use Rattle.std.specs.List.{list_any, starts_with}
use Rattle.std.specs.Str.{bytes_eq}
use Rattle.ses_io.specs.Files.{Files}

pub record StoredFile : Type 0 where
  pub name : List ℕ
  pub bytes : List ℕ

abbrev pub has_name : List ℕ → StoredFile → Bool
has_name name file = bytes_eq file.name name

abbrev pub files_in : List StoredFile → Files
files_in files = λ name. option_map (λ f. f.bytes) (find (has_name name) files)

-- some name begins with the prefix
abbrev pub any_under : List ℕ → List StoredFile → Bool
any_under prefix files = list_any (λ f. starts_with nat_eq f.name prefix) files

-- the file of that name holds these bytes; a new one stands last
abbrev pub stored : List StoredFile → List ℕ → List ℕ → List StoredFile
stored [] name bytes = record { name = name; bytes = bytes } ∷ []
stored (f ∷ fs) name bytes = if has_name name f then record f { bytes = bytes } ∷ fs else f ∷ stored fs name bytes

-- a place from which on calls on the file of that name fail; no name stands for every file
pub record FailPlace : Type 0 where
  pub name : List ℕ
  pub from : ℕ

abbrev pub covers : FailPlace → List ℕ → ℕ → Bool
covers place name at = (length place.name == 0 || bytes_eq place.name name) && nat_le place.from at

abbrev pub fails_at : List FailPlace → List ℕ → ℕ → Bool
fails_at places name at = list_any (λ p. covers p name at) places
