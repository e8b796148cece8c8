-- What a verify ends with, and its text.
use Rattle.std.specs.Prelude.{◌≡◌, ◌⊎◌, ℕ, List, ◌++◌, codes, decimal, Ok, Err}
use Rattle.ses_io.specs.Files.{Files}
use Rattle.ses_io.specs.Outside.{MediaOutside}
use Rattle.command_words.specs.Words.{Verify}
use Rattle.cycle_journal.specs.declared.status.Status.{Status}
use Rattle.cycle_journal.specs.declared.status.Status.TheVariants.{Done, OutFault}
use Rattle.session_opening.specs.Status.{IsUnread}
use Rattle.session_verify.specs.Verified.{IsAnswer}
use Rattle.session_verify.specs.Laws.{Agrees}

-- it is Done, or the write to out failed
abbrev pub IsSaid : Status → Type 0
IsSaid s = (s ≡ Done) ⊎ (s ≡ OutFault)

-- **How a verify ends**, by the files.
pub record EndsAsVerified (files : Files) (v : Verify) (s : Status) : Type 0 where
  -- Done only where session, report and master agree; else the status says what is wrong first, if it doesn't say that something wasn't read
  pub verdict : (((entries : ℕ) × IsAnswer files v (Ok entries)) × IsSaid s) ⊎ IsAnswer files v (Err s)
  -- and where they agree nothing is refuted
  pub agreed : Agrees files v → IsSaid s ⊎ IsUnread s

-- `verified ENTRIES`, and a line feed
abbrev pub verified_text : ℕ → List ℕ
verified_text entries = codes "verified " ++ decimal entries ++ codes "\n"

-- The text of a verify of these files.
pub record IsVerifiedText {M : Type 0} (media : MediaOutside M) (before : M) (v : Verify) (text : List ℕ) : Type 0 where
  pub entries : ℕ
  -- where the media tells, session, report and master agree, and the report has so many entries
  pub of_files : media.tells → IsAnswer (media.files before) v (Ok entries)
  pub is_text : text ≡ verified_text entries
