-- How the numbers decide of an entry, note by note.
use Rattle.std.specs.Prelude.{ℕ, zero, suc, Bool, true, false, ◌&&◌, not, ◌==◌, nat_le, List, [], ◌∷◌, length, slice_get, slice_index_or}
use Rattle.std.specs.Option.{option_map_or}
use Rattle.engine_model.specs.Changes.{Change}
use Rattle.engine_model.specs.Journal.{Play, Silent, Heard, Short, Note, Entry, is_rolling}
use Rattle.engine_model.specs.Fits.{fits_state, fits_play, fits_take, records}
use Rattle.session_change.specs.Change.{list_of}
use Rattle.edition_log.specs.EditionState.{state_of}
use Rattle.journal_judge.specs.Judged.{JudgeState, count_at}

-- the change is of the playlist of track t
abbrev pub is_of : ℕ → Change → Bool
is_of t change = option_map_or (λ u. u == t) (list_of change) false

-- a playlist edition of track t: 0, or the number of a change of the track's playlist
abbrev pub names_change : List Change → ℕ → ℕ → Bool
names_change changes t zero = true
names_change changes t (suc k) = option_map_or (is_of t) (slice_get changes k) false

-- what is heard is a playlist edition, none older than the settled one and than what was heard
abbrev pub is_well_heard : List Change → ℕ → ℕ → ℕ → Play → Bool
is_well_heard changes t floor heard Silent = true
is_well_heard changes t floor heard (Heard p) = names_change changes t p && nat_le floor p && nat_le heard p
is_well_heard changes t floor heard (Short tail) = true

abbrev pub is_good_take : JudgeState → Bool → ℕ → Note → Bool
is_good_take j rolling t note = fits_take (rolling && records (state_of j.entered) t) ((count_at j.tracks t).takes.take, (count_at j.tracks t).takes.index) note.take

abbrev pub is_good_note : List Change → JudgeState → Bool → ℕ → Note → Bool
is_good_note changes j rolling t note = fits_play rolling j.rolled note.play && is_good_take j rolling t note
    && is_well_heard changes t (slice_index_or j.settled.touched t 0) (count_at j.tracks t).heard note.play

-- the notes, of which the first is that of track t
abbrev pub are_good_notes : List Change → JudgeState → Bool → ℕ → List Note → Bool
are_good_notes changes j rolling t [] = true
are_good_notes changes j rolling t (note ∷ notes) = is_good_note changes j rolling t note && are_good_notes changes j rolling (suc t) notes

-- edition and settled number don't fall, and name edits
abbrev pub goes_on : ℕ → JudgeState → Entry → Bool
goes_on many j e = nat_le e.edition many && nat_le e.settled e.edition && nat_le (length j.entered.edits) e.edition && nat_le (length j.settled.edits) e.settled

-- the entry is good in the edition that was entered, where that is its own
abbrev pub is_good : List Change → JudgeState → Entry → Bool
is_good changes j e = not j.entered.transport.quit
    && fits_state j.entered.transport.rolling (length j.entered.session.tracks.items) j.entered.transport.generation j.rolled e.state
    && length e.notes == length j.entered.session.tracks.items && are_good_notes changes j (is_rolling e.state) 0 e.notes
