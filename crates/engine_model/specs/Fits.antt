-- When an entry fits the edits and the entries before it, and when a journal is lawful (Ardour's manual, transport and
-- recording; editions and settled numbers are own). Entries before one stand newest first.
use Rattle.std.specs.Prelude.{ℕ, suc, max, Bool, true, false, ◌&&◌, not, ◌==◌, nat_le, nat_lt, List, [], ◌∷◌, length, reverse, slice_get}
use Rattle.std.specs.List.{list_all}
use Rattle.std.specs.Option.{option_map_or}
use Rattle.session_model.specs.declared.session.Session.{Session}
use Rattle.session_model.specs.declared.edit.Edit.{Edit}
use Rattle.engine_model.specs.Edits.{playlist_edition, generation, has_quit}
use Rattle.engine_model.specs.Editions.{Edition, edition}
use Rattle.engine_model.specs.Journal.{Play, Silent, Heard, Short, Take, Off, Taken, Lost, Note, State, Stopped, Seeking, Rolling, Entry, is_rolling, rolled, note_of}

-- ---- takes

-- the number of a take, 0 where there is none
abbrev pub take_number : Take → ℕ
take_number Off = 0
take_number (Taken n i) = n
take_number (Lost n i head) = n

-- the greatest take of track t so far
abbrev pub greatest_take : ℕ → List Entry → ℕ
greatest_take t [] = 0
greatest_take t (e ∷ es) = max (take_number (note_of t e).take) (greatest_take t es)

-- what the entry before took of track t
abbrev pub last_take : ℕ → List Entry → Take
last_take t [] = Off
last_take t (e ∷ es) = (note_of t e).take

-- the take and the index that follow: a take goes on from one entry to the next, else a new one begins
abbrev pub take_after : Take → ℕ → ℕ × ℕ
take_after Off most = (suc most, 0)
take_after (Taken n i) most = (n, suc i)
take_after (Lost n i head) most = (n, suc i)

abbrev pub next_take : ℕ → List Entry → ℕ × ℕ
next_take t before = take_after (last_take t before) (greatest_take t before)

-- in an edition the track is armed while recording is on
abbrev pub records : Edition → ℕ → Bool
records e t = e.transport.recording && option_map_or (λ k. k.armed) (slice_get e.session.tracks.items t) false

-- ---- an entry that fits

-- n: how many earlier entries roll in generation g
abbrev pub fits_state : Bool → ℕ → ℕ → ℕ → State → Bool
fits_state rolls tracks g n Stopped = not rolls
fits_state rolls tracks g n (Seeking t tail) = rolls && n == 0 && nat_lt t tracks
fits_state rolls tracks g n (Rolling h s) = rolls && h == g && s == n

abbrev pub fits_play : Bool → ℕ → Play → Bool
fits_play rolling n Silent = not rolling
fits_play rolling n (Heard p) = rolling
fits_play rolling n (Short tail) = rolling && nat_lt 0 n

abbrev pub fits_take : Bool → ℕ × ℕ → Take → Bool
fits_take recorded next Off = not recorded
fits_take recorded next (Taken n i) = recorded && n == next.0 && i == next.1
fits_take recorded next (Lost n i head) = recorded && n == next.0 && i == next.1

abbrev pub fits_note : Edition → Bool → ℕ → List Entry → ℕ → Note → Bool
fits_note now rolling n before t note = fits_play rolling n note.play
    && fits_take (rolling && records now t) (next_take t before) note.take

-- the notes fit, of which the first is that of track t
abbrev pub fits_notes : Edition → Bool → ℕ → List Entry → ℕ → List Note → Bool
fits_notes now rolling n before t [] = true
fits_notes now rolling n before t (note ∷ notes) = fits_note now rolling n before t note && fits_notes now rolling n before (suc t) notes

abbrev pub fits_in : Session → Edition → ℕ → List Entry → Entry → Bool
fits_in session now g before e = fits_state now.transport.rolling (length session.tracks.items) g (rolled g before) e.state
    && length e.notes == length session.tracks.items
    && fits_notes now (is_rolling e.state) (rolled g before) before 0 e.notes

-- the entry fits the edits and the entries before it
abbrev pub fits : Session → List Edit → List Entry → Entry → Bool
fits session edits before e = nat_le e.edition (length edits) && not (has_quit edits e.edition)
    && fits_in session (edition session edits e.edition) (generation edits e.edition) before e

-- ---- a lawful journal

-- what is heard is never older than what was heard
abbrev pub is_heard_after : Play → Play → Bool
is_heard_after (Heard q) (Heard p) = nat_le q p
is_heard_after old new = true

-- what is heard is an edition of the track's playlist, and none older than the settled edition has it
abbrev pub is_heard_well : Session → List Edit → ℕ → ℕ → Play → Bool
is_heard_well session edits settled t (Heard p) = p == playlist_edition session edits t p && nat_le p (length edits)
    && nat_le (playlist_edition session edits t settled) p
is_heard_well session edits settled t _ = true

-- the same of the notes, of which the first is that of track t
abbrev pub are_heard_well : Session → List Edit → ℕ → List Entry → ℕ → List Note → Bool
are_heard_well session edits settled before t [] = true
are_heard_well session edits settled before t (note ∷ notes) = is_heard_well session edits settled t note.play
    && list_all (λ old. is_heard_after (note_of t old).play note.play) before
    && are_heard_well session edits settled before (suc t) notes

-- neither edition nor settled number fall
abbrev pub is_no_older : Entry → Entry → Bool
is_no_older old e = nat_le old.edition e.edition && nat_le old.settled e.settled

abbrev pub is_lawful_after : Session → List Edit → List Entry → Entry → Bool
is_lawful_after session edits before e = fits session edits before e && list_all (λ old. is_no_older old e) before
    && nat_le e.settled e.edition && are_heard_well session edits e.settled before 0 e.notes

abbrev pub is_lawful_newest : Session → List Edit → List Entry → Bool
is_lawful_newest session edits [] = true
is_lawful_newest session edits (e ∷ before) = is_lawful_after session edits before e && is_lawful_newest session edits before

-- The journal, its first entry first, is lawful for the edits: each entry fits; editions, settled numbers and what is heard
-- of a track never fall; the settled number is at most the edition; and what is heard is no older than what is settled.
abbrev pub is_lawful : Session → List Edit → List Entry → Bool
is_lawful session edits journal = is_lawful_newest session edits (reverse journal)
