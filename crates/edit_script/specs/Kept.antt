-- The words of a line as they are kept while it is read.
use Rattle.std.specs.Prelude.{◌≡◌, ℕ, ◌-◌, ◌^◌, if◌then◌else◌, List, [], ◌∷◌, ◌++◌, map, min, take, length}
use Rattle.std.specs.Borrow.{Bor}
use Rattle.edit_script.specs.declared.words.Words.{Words}
use Rattle.edit_script.specs.Words.{has_bytes}

-- the bytes of words
abbrev pub texts : List (Bor (List ℕ)) → List (List ℕ)
texts words = map (λ w. w.now) words

abbrev pub kept : Words → List (List ℕ)
kept words = texts words.kept.items

-- the first eight of these words are kept, and all of them are counted
pub record Keeps (all : List (List ℕ)) (words : Words) : Type 0 where
  pub first : kept words ≡ take 8 all
  pub count : words.count ≡ min (length all) (2 ^ 32 - 1)

-- words, and one more if it has bytes
abbrev pub with_part : List (List ℕ) → List ℕ → List (List ℕ)
with_part all part = if has_bytes part then all ++ part ∷ [] else all
