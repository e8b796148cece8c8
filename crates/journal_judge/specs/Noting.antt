-- What taking up the notes of an entry does to the numbers of the tracks.
use Rattle.std.specs.Prelude.{◌≡◌, ℕ, ◌+◌, ◌<◌, ◌≤◌, if◌then◌else◌, List, length}
use Rattle.engine_model.specs.Journal.{Note, note_at, State, is_rolling}
use Rattle.journal_judge.specs.declared.tracks.TrackCount.{TrackCount}
use Rattle.journal_judge.specs.Counts.{note_after}
use Rattle.journal_judge.specs.Judged.{count_at}

-- the counts of the first tracks may go on
abbrev pub HasRoom : ℕ → List TrackCount → Type 0
HasRoom many tracks = (t : ℕ) → t < many → ((count_at tracks t).takes.greatest ≤ 100000) × ((count_at tracks t).takes.index ≤ 100000)

-- each of the first tracks is as its note leaves it
abbrev pub AreNoted : List TrackCount → List Note → List TrackCount → Type 0
AreNoted old notes new = (t : ℕ) → t < length notes → count_at new t ≡ note_after (count_at old t) (note_at t notes)

-- how many entries roll in a generation with one more that is of it
abbrev pub rolled_after : State → ℕ → ℕ
rolled_after state rolled = if is_rolling state then rolled + 1 else rolled
