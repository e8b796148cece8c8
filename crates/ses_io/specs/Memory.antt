-- What contracts see of the objects in memory.
use Rattle.std.specs.Prelude.{ℕ, Bool, ◌||◌, List, length, Result, Ok, Err}
use Rattle.ses_io.specs.Calls.{PlannedCalls, counted, fails_next}
use Rattle.ses_io.specs.Faults.{risen}
use Rattle.ses_io.specs.Files.{content}
use Rattle.ses_io.specs.Stored.{StoredFile, FailPlace, files_in, fails_at}

-- the bytes still to be read, the calls, and how many failed
pub record SourceState : Type 0 where
  pub left : List ℕ
  pub plan : PlannedCalls
  pub faults : ℕ

-- the bytes that were written, the calls, and how many failed
pub record SinkState : Type 0 where
  pub held : List ℕ
  pub plan : PlannedCalls
  pub faults : ℕ

-- the files, the calls, the places where reads and writes fail, and how many of each failed
pub record MediaState : Type 0 where
  pub files : List StoredFile
  pub plan : PlannedCalls
  pub bad_reads : List FailPlace
  pub bad_writes : List FailPlace
  pub read_faults : ℕ
  pub write_faults : ℕ

-- the next call fails, and it is a `read_at`, an `append` or a `write_at`
abbrev pub fails_reading : MediaState → List ℕ → ℕ → Bool
fails_reading m name at = fails_next m.plan || fails_at m.bad_reads name at

abbrev pub fails_appending : MediaState → List ℕ → Bool
fails_appending m name = fails_next m.plan || fails_at m.bad_writes name (length (content (files_in m.files) name))

abbrev pub fails_writing : MediaState → List ℕ → ℕ → Bool
fails_writing m name at = fails_next m.plan || fails_at m.bad_writes name at

-- after a call that reads
abbrev pub after_reading : {T E : Type 0} → MediaState → Result T E → MediaState
after_reading m (Ok _) = record m { plan = counted m.plan }
after_reading m (Err _) = record m { plan = counted m.plan; read_faults = risen m.read_faults }

-- after a call that writes, and at Ok leaves these files
abbrev pub after_writing : {T E : Type 0} → MediaState → List StoredFile → Result T E → MediaState
after_writing m files (Ok _) = record m { plan = counted m.plan; files = files }
after_writing m files (Err _) = record m { plan = counted m.plan; write_faults = risen m.write_faults }
