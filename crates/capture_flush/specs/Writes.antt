-- Bytes that are added to a file of a media (own).
use Rattle.std.specs.Prelude.{◌≡◌, ℕ, List, [], ◌∷◌, ◌++◌, Result, OnOk, OnErr}
use Rattle.ses_io.specs.Files.{Files, content, with_file, AppendsSomeTo}
use Rattle.ses_io.specs.Outside.{MediaOutside, WriteCause}

-- the same files, but that one has these bytes at its end; a file that is absent is made by the first byte
abbrev pub with_more : Files → List ℕ → List ℕ → Files
with_more files name [] = files
with_more files name (b ∷ bytes) = with_file files name (content files name ++ b ∷ bytes)

-- Bytes were added to the end of a file.
pub record Adds {V E : Type 0} (outside : MediaOutside V) (name bytes : List ℕ) (old new : V) (result : Result (Unit {0}) E) : Type 0 where
  -- all of them at Ok
  pub all : outside.tells → OnOk result (outside.files new ≡ with_more (outside.files old) name bytes)
  -- and a front of them after a fault
  pub front : outside.tells → OnErr result (AppendsSomeTo (outside.files old) (outside.files new) name bytes)
  -- which comes only where the count rose
  pub cause : WriteCause outside old new result
  -- no read failed
  pub reads : outside.read_faults new ≡ outside.read_faults old
