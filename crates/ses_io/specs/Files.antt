-- The files of a media: from the bytes of a name to the bytes of that file, if there is one.
use Rattle.std.specs.Prelude.{◌≡◌, ℕ, ◌+◌, ◌≤◌, List, [], ◌++◌, length, take, drop, nat_eq, IsTrue, Option, Some, IsSome, IsSomeAnd, ◌⊎◌, if◌then◌else◌, unwrap_or}
use Rattle.std.specs.Str.{bytes_eq}
use Rattle.std.specs.List.{starts_with}

abbrev pub Files : Type 0
Files = List ℕ → Option (List ℕ)

-- what the file of that name holds, nothing where there is none
abbrev pub content : Files → List ℕ → List ℕ
content files name = unwrap_or (files name) []

-- the same files, but that one holds these bytes
abbrev pub with_file : Files → List ℕ → List ℕ → Files
with_file files name bytes = λ q. if bytes_eq name q then Some bytes else files q

-- some file's name begins with the prefix
abbrev pub HasNameUnder : Files → List ℕ → Type 0
HasNameUnder files prefix = (q : List ℕ) × IsSome (files q) × IsTrue (starts_with nat_eq q prefix)

-- there is such a file, and the n bytes from `at` on lie in it
abbrev pub HasRange : Files → List ℕ → ℕ → ℕ → Type 0
HasRange files name at n = IsSomeAnd (files name) (λ held. at + n ≤ length held)

-- the front of the buffer is the n bytes from `at` on
pub record IsPart (held : List ℕ) (at : ℕ) (buf : List ℕ) (n : ℕ) : Type 0 where
  pub within : n ≤ length buf
  pub enough : n ≤ length (drop at held)
  pub front : take n buf ≡ take n (drop at held)

-- these bytes with the piece in the place of those from `at` on
abbrev pub overwritten : List ℕ → ℕ → List ℕ → List ℕ
overwritten held at piece = take at held ++ piece ++ drop (at + length piece) held

-- the file has the first n bytes of the piece at its end; one that was absent was made
pub record AppendsTo (before after : Files) (name piece : List ℕ) (n : ℕ) : Type 0 where
  pub within : n ≤ length piece
  pub files : after ≡ with_file before name (content before name ++ take n piece)

-- the file has the first n bytes of the piece from `at` on
pub record Overwrites (before after : Files) (name : List ℕ) (at : ℕ) (piece : List ℕ) (n : ℕ) : Type 0 where
  pub within : n ≤ length piece
  pub files : after ≡ with_file before name (overwritten (content before name) at (take n piece))

-- no file changed, or that one has some bytes of the piece at its end
abbrev pub AppendsSomeTo : Files → Files → List ℕ → List ℕ → Type 0
AppendsSomeTo before after name piece = (after ≡ before) ⊎ ((n : ℕ) × AppendsTo before after name piece n)

abbrev pub OverwritesSome : Files → Files → List ℕ → ℕ → List ℕ → Type 0
OverwritesSome before after name at piece = (n : ℕ) × Overwrites before after name at piece n
