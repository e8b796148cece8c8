-- What contracts see of a judge, and when it has judged these entries.
use Rattle.std.specs.Prelude.{◌≡◌, ℕ, ◌<◌, ◌≤◌, true, false, List, length, slice_index_or, take}
use Rattle.session_model.specs.declared.session.Session.{Session}
use Rattle.session_model.specs.declared.edit.Edit.{Edit}
use Rattle.session_model.specs.Valid.{IsValid}
use Rattle.engine_model.specs.Edits.{generation}
use Rattle.engine_model.specs.Journal.{Entry, rolled}
use Rattle.engine_model.specs.Fits.{is_lawful_newest}
use Rattle.edition_log.specs.EditionState.{EditionState, IsEditionOf}
use Rattle.journal_judge.specs.declared.tracks.TrackCount.{TrackCount}
use Rattle.journal_judge.specs.Counts.{no_count}
use Rattle.journal_judge.specs.Numbers.{newest_edition, newest_settled, IsCounted}

pub record JudgeState : Type 0 where
  -- the edition of the newest entry
  pub entered : EditionState
  -- the edition that it has settled
  pub settled : EditionState
  pub tracks : List TrackCount
  -- how many entries roll in the generation of the edition entered
  pub rolled : ℕ

-- the numbers of a track
abbrev pub count_at : List TrackCount → ℕ → TrackCount
count_at tracks t = slice_index_or tracks t no_count

-- It is edition k of the session by these edits.
pub record IsAt (s : Session) (edits : List Edit) (k : ℕ) (e : EditionState) : Type 0 where
  pub edition_of : IsEditionOf s e
  pub ended : e.ended ≡ false
  pub first : e.edits ≡ take k edits
  pub within : k ≤ length edits

-- The entries are a lawful journal for the edits, and the judge has their numbers, as edition k and this settled edition
-- have them, which are no older than those of any entry.
pub record HasEntered (s : Session) (edits : List Edit) (entries : List Entry) (k settled : ℕ) (j : JudgeState) : Type 0 where
  pub valid : IsValid s
  pub lawful : is_lawful_newest s edits entries ≡ true
  pub entered : IsAt s edits k j.entered
  pub floor : IsAt s edits settled j.settled
  pub on : newest_edition entries ≤ k
  pub settled_on : newest_settled entries ≤ settled
  pub tracks : (t : ℕ) → t < 32 → t < length s.tracks.items → IsCounted t entries (count_at j.tracks t)
  pub rolled : j.rolled ≡ rolled (generation edits k) entries
  -- no more than entries
  pub few : j.rolled ≤ length entries

-- The entries are a lawful journal for the edits, and the judge has their numbers.
abbrev pub HasJudged : Session → List Edit → List Entry → JudgeState → Type 0
HasJudged s edits entries j = HasEntered s edits entries (newest_edition entries) (newest_settled entries) j
