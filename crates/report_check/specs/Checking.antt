-- What is kept along the entries of a report that is checked.
use Rattle.std.specs.Prelude.{◌≡◌, ℕ, List, ◌∷◌, ◌++◌, reverse, Bool, Option, Some, None, true, false}
use Rattle.session_model.specs.declared.session.Session.{Session}
use Rattle.session_model.specs.declared.edit.Edit.{Edit}
use Rattle.ses_io.specs.Files.{Files}
use Rattle.engine_model.specs.Journal.{Entry}
use Rattle.cycle_journal.specs.declared.entry.Entry as code
use Rattle.cycle_journal.specs.JournalView.{seen_entries}
use Rattle.engine_model.specs.Fits.{is_lawful_after}
use Rattle.engine_model.specs.Played.{Samples, samples_of}
use Rattle.audio_source.specs.Told.{source_sound}
use Rattle.audio_source.specs.Lines.{SourcesState}
use Rattle.journal_judge.specs.Judged.{JudgeState, HasJudged}
use Rattle.heard_blocks.specs.State.{HeardState, HasHeard}
use Rattle.master_blocks.specs.Bytes.{entry_bytes}
use Rattle.report_verdict.specs.Lines.{edits_stand, entries_behind}

pub record CheckerState : Type 0 where
  pub judge : JudgeState
  pub heard : HeardState

-- These entries were checked, the newest first.
pub record HasChecked (s : Session) (edits : List Edit) (before : List Entry) (c : CheckerState) : Type 0 where
  pub judged : HasJudged s edits before c.judge
  pub heard : HasHeard s edits before c.heard

-- entries that are done, as those before an entry: the newest first
abbrev pub before : List code.Entry → List Entry
before done = reverse (seen_entries done)

-- the samples of tracks as their files sound
abbrev pub samples_read : Files → SourcesState → Session → List Edit → Samples
samples_read files sources s edits = samples_of (source_sound files sources.opened) s edits

-- The block of an entry, which is there exactly where the entry is lawful, and then has these bytes where they are known.
pub record IsBlockOf (told : Type 0) (s : Session) (edits : List Edit) (samples : Samples) (before : List Entry) (e : Entry) (new : CheckerState) (bytes : List ℕ) : Type 0 where
  pub lawful : is_lawful_after s edits before e ≡ true
  pub bytes_are : told → bytes ≡ entry_bytes s edits samples e
  pub checked : HasChecked s edits (e ∷ before) new

abbrev pub MayHaveBlock : Type 0 → Session → List Edit → Samples → List Entry → Entry → CheckerState → Option (List ℕ) → Type 0
MayHaveBlock told s edits samples before e new (Some bytes) = IsBlockOf told s edits samples before e new bytes
MayHaveBlock told s edits samples before e new None = is_lawful_after s edits before e ≡ false

-- the lines behind that of the form: those of edits, those of entries, and the last
abbrev pub lines_behind : Session → List Edit → Samples → List ℕ → ℕ → List Entry → List Bool
lines_behind s edits samples file cycles entries = edits_stand s edits ++ entries_behind s edits samples file cycles entries
