-- The numbers that a journal comes down to: what decides of its next entry. Entries stand newest first.
use Rattle.std.specs.Prelude.{◌≡◌, ℕ, ◌+◌, ◌≤◌, max, List, [], ◌∷◌, length}
use Rattle.engine_model.specs.Journal.{Entry, note_of}
use Rattle.engine_model.specs.Fits.{greatest_take, next_take}
use Rattle.journal_judge.specs.declared.tracks.TrackCount.{TrackCount}
use Rattle.journal_judge.specs.Counts.{heard_number}

-- the edition of the newest entry, and the one that it has settled; edition 0 where there is none
abbrev pub newest_edition : List Entry → ℕ
newest_edition [] = 0
newest_edition (e ∷ es) = e.edition

abbrev pub newest_settled : List Entry → ℕ
newest_settled [] = 0
newest_settled (e ∷ es) = e.settled

-- the greatest that was heard of track t
abbrev pub greatest_heard : ℕ → List Entry → ℕ
greatest_heard t [] = 0
greatest_heard t (e ∷ es) = max (heard_number (note_of t e).play) (greatest_heard t es)

-- The numbers are those of track t in these entries.
pub record IsCounted (t : ℕ) (entries : List Entry) (c : TrackCount) : Type 0 where
  pub heard : c.heard ≡ greatest_heard t entries
  pub greatest : c.takes.greatest ≡ greatest_take t entries
  -- the take and the index that follow
  pub take : c.takes.take ≡ (next_take t entries).0
  pub index : c.takes.index ≡ (next_take t entries).1
  -- no more takes and blocks than entries
  pub few : c.takes.greatest ≤ length entries
  pub few_takes : c.takes.take ≤ length entries + 1
  pub few_blocks : c.takes.index ≤ length entries
