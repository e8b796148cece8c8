-- What an object of the outside tells of itself, and what a call that reads or writes leaves of it.
use Rattle.std.specs.Prelude.{◌≡◌, ℕ, List, ◌++◌, Result, OnOk, OnErr}
use Rattle.ses_io.specs.Faults.{HasCause}
use Rattle.ses_io.specs.Files.{Files}
use Rattle.ses_io.specs.Streams.{AppendsSome}

-- bytes that come in
pub record SourceOutside (S : Type 0) : Type 1 where
  -- whether the bytes are known: ⊤ in memory, ⊥ for a real file
  pub tells : Type 0
  -- those that reads will give from here on
  pub left : S → List ℕ
  -- how many reads failed; it stands still at its type's end
  pub faults : S → ℕ

-- bytes that go out
pub record SinkOutside (S : Type 0) : Type 1 where
  -- whether the bytes are known: ⊤ in memory, ⊥ for a real file
  pub tells : Type 0
  -- those that were given so far
  pub held : S → List ℕ
  -- how many writes failed; it stands still at its type's end
  pub faults : S → ℕ

-- files by name
pub record MediaOutside (V : Type 0) : Type 1 where
  -- whether the files are known: ⊤ in memory, ⊥ for real files
  pub tells : Type 0
  -- from the bytes of a name to the bytes of that file
  pub files : V → Files
  -- how many calls of `size`, `any` and `read_at` failed; it stands still at its type's end
  pub read_faults : V → ℕ
  -- how many calls of `append` and `write_at` failed, likewise
  pub write_faults : V → ℕ

-- a call that reads fails only where the count of failed reads rises
abbrev pub ReadCause : {V T E : Type 0} → MediaOutside V → V → V → Result T E → Type 0
ReadCause outside old new result = HasCause (outside.read_faults old) (outside.read_faults new) result

-- a call that writes fails only where the count of failed writes rises
abbrev pub WriteCause : {V T E : Type 0} → MediaOutside V → V → V → Result T E → Type 0
WriteCause outside old new result = HasCause (outside.write_faults old) (outside.write_faults new) result

-- no file changed, and no write failed
pub record OnlyReads {V : Type 0} (outside : MediaOutside V) (old new : V) : Type 0 where
  pub files : outside.files new ≡ outside.files old
  pub other_count : outside.write_faults new ≡ outside.write_faults old

-- a piece was written to a sink
pub record Writes {S E : Type 0} (outside : SinkOutside S) (piece : List ℕ) (old new : S) (result : Result (Unit {0}) E) : Type 0 where
  -- all of it at Ok
  pub all : outside.tells → OnOk result (outside.held new ≡ outside.held old ++ piece)
  -- and a front of it after a fault
  pub front : outside.tells → OnErr result (AppendsSome (outside.held old) (outside.held new) piece)
  -- which comes only where the count rose
  pub cause : HasCause (outside.faults old) (outside.faults new) result
