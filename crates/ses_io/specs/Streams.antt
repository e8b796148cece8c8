-- What a source gives from its front, and what a sink takes to its end. Lists are of bytes.
use Rattle.std.specs.Prelude.{◌≡◌, ℕ, ◌<◌, ◌≤◌, List, ◌++◌, length, take, drop}

-- the first n bytes left went to the front of the buffer
pub record Takes (before after buf : List ℕ) (n : ℕ) : Type 0 where
  pub within : n ≤ length buf
  pub enough : n ≤ length before
  pub front : take n buf ≡ take n before
  pub rest : after ≡ drop n before

-- the first n bytes of the piece went to the end of what was held
pub record Appends (before after piece : List ℕ) (n : ℕ) : Type 0 where
  pub within : n ≤ length piece
  pub held : after ≡ before ++ take n piece

-- some bytes went, maybe none, and the buffer had room for more
abbrev pub TakesFewer : List ℕ → List ℕ → List ℕ → Type 0
TakesFewer before after buf = (n : ℕ) × (n < length buf) × Takes before after buf n

-- some bytes went, maybe none
abbrev pub AppendsSome : List ℕ → List ℕ → List ℕ → Type 0
AppendsSome before after piece = (n : ℕ) × Appends before after piece n
