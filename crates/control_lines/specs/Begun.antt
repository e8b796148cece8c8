-- A line that was begun.
use Rattle.std.specs.Prelude.{◌≡◌, ℕ, suc, ◌<◌, Bool, true, ◌==◌, not, nat_lt, List, [], ◌∷◌, ◌++◌, length, take, drop, reverse, min, Option, Some, None}
use Rattle.std.specs.List.{list_all}
use Rattle.edit_script.specs.Reading.{Read, said}
use Rattle.edit_script.specs.declared.command.Command.{Command}
use Rattle.engine_model.specs.Lines.{without_return}

-- one byte more than the longest line that is read, and the carriage return before its end
abbrev pub most_kept : ℕ
most_kept = 4097

-- of a line with these bytes the first are kept, and whether it has more
pub record IsBegun (line kept : List ℕ) (many : ℕ) (more : Bool) : Type 0 where
  pub front : take many kept ≡ take most_kept line
  pub many_are : many ≡ min most_kept (length line)
  pub more_are : more ≡ nat_lt most_kept (length line)

-- a line as it stands once its line feed has come
abbrev pub bare : List ℕ → List ℕ
bare line = reverse (without_return (reverse line))

-- what the last line says, which has no line feed; there is none without a byte
abbrev pub IsLast : List ℕ → Option (Read Command) → Type 0
IsLast [] answer = answer ≡ None
IsLast (b ∷ line) answer = answer ≡ Some (said (b ∷ line))

-- no byte is a line feed
abbrev pub has_no_feed : List ℕ → Bool
has_no_feed bytes = list_all (λ b. not (b == 10)) bytes

-- a line of so many bytes ends at the first line feed of these
pub record IsCutAt (long : ℕ) (bytes : List ℕ) : Type 0 where
  pub within : long < length bytes
  pub no_feed : has_no_feed (take long bytes) ≡ true
  pub feed : bytes ≡ take long bytes ++ 10 ∷ drop (suc long) bytes
