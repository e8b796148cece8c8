-- The words of a control line (own). Lines and words are lists of bytes.
use Rattle.std.specs.Prelude.{ℕ, ◌-◌, Bool, ◌&&◌, ◌||◌, ◌==◌, nat_le, List, [], length, slice_get, filter, unwrap_or}
use Rattle.std.specs.List.{slice_split}

-- the longest line, in bytes
abbrev pub longest : ℕ
longest = 4096

-- what may stand in a line: a tab, or a byte from the space to the tilde
abbrev pub is_text : ℕ → Bool
is_text b = b == 9 || (nat_le 32 b && nat_le b 126)

-- spaces and tabs part words
abbrev pub is_blank : ℕ → Bool
is_blank b = b == 32 || b == 9

abbrev pub has_bytes : List ℕ → Bool
has_bytes word = nat_le 1 (length word)

-- the words of a line, none of them empty
abbrev pub words_of : List ℕ → List (List ℕ)
words_of line = filter has_bytes (slice_split is_blank line)

-- the word at a place; words count from 1, the command being word 1
abbrev pub word_at : List (List ℕ) → ℕ → List ℕ
word_at words i = unwrap_or (slice_get words (i - 1)) []
