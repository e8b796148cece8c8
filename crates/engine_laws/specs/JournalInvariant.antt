-- What stands of the journal of a process while it receives, sees more edits, and makes entries. Entries, and what was
-- received of each track, stand newest first.
use Rattle.std.specs.Prelude.{◌≡◌, ℕ, true, false, List, [], ◌∷◌, ◌++◌, length, replicate, slice_get, Some}
use Rattle.session_model.specs.declared.session.Session.{Session}
use Rattle.session_model.specs.declared.edit.Edit.{Edit}
use Rattle.engine_model.specs.Edits.{generation, has_quit}
use Rattle.engine_model.specs.Editions.{edition}
use Rattle.engine_model.specs.Items.{Kind}
use Rattle.engine_model.specs.Journal.{Heard, Take, Off, Entry, rolled, note_of}
use Rattle.engine_model.specs.Order.{is_ordered_newest}
use Rattle.engine_model.specs.Cycle.{entry_of}
use Rattle.engine_model.specs.Fits.{is_lawful_newest}
pub use Rattle.engine_model.specs.Made.{Receives}
use Rattle.engine_laws.specs.Entered.{GoneOn, Backed, HeardAt}

-- an entry that was made at block s of generation g, now that block r of generation h is next
pub record EntryStands (tracks : List (List Kind)) (h r g s : ℕ) (e : Entry) : Type 0 where
  -- the place has gone on
  pub on : GoneOn g s h r
  -- the marks of each track bear its settled number out
  pub backed : (t : ℕ) (xs : List Kind) → slice_get tracks t ≡ Some xs → Backed g s e.settled xs
  -- and what it heard was received
  pub heard : (t p : ℕ) (xs : List Kind) → slice_get tracks t ≡ Some xs → (note_of t e).play ≡ Heard p → HeardAt g s p xs

abbrev pub EntriesStand : List Edit → List (List Kind) → ℕ → ℕ → List Entry → Type 0
EntriesStand edits tracks h r [] = Unit {0}
EntriesStand edits tracks h r (e ∷ before) = EntryStands tracks h r (generation edits e.edition) (rolled (generation edits e.edition) before) e
    × EntriesStand edits tracks h r before

-- each track's items are ordered
abbrev pub AreOrdered : Session → List Edit → List (List Kind) → Type 0
AreOrdered session edits tracks = (t : ℕ) (xs : List Kind) → slice_get tracks t ≡ Some xs → is_ordered_newest session edits t xs ≡ true

pub record JournalInvariant (session : Session) (edits : List Edit) (tracks : List (List Kind)) (entries : List Entry) : Type 0 where
  pub lawful : is_lawful_newest session edits entries ≡ true
  pub many : length tracks ≡ length session.tracks.items
  pub ordered : AreOrdered session edits tracks
  pub stand : EntriesStand edits tracks (generation edits (length edits)) (rolled (generation edits (length edits)) entries) entries

-- it stands when more is received,
abbrev pub StandsWhileReceiving : Type 0
StandsWhileReceiving = (session : Session) (edits : List Edit) (old new : List (List Kind)) (entries : List Entry) → JournalInvariant session edits old entries → Receives old new →
    AreOrdered session edits new → JournalInvariant session edits new entries

-- when more edits come,
abbrev pub StandsWhileEditing : Type 0
StandsWhileEditing = (session : Session) (edits more : List Edit) (tracks : List (List Kind)) (entries : List Entry) → JournalInvariant session edits tracks entries → JournalInvariant session (edits ++ more) tracks entries

-- no take is noted
abbrev pub no_takes : Session → List Take
no_takes session = replicate (length session.tracks.items) Off

-- and with the entry of a cycle in the newest edition, where that hasn't quit and doesn't record.
abbrev pub StandsWithItsEntry : Type 0
StandsWithItsEntry = (session : Session) (edits : List Edit) (tracks : List (List Kind)) (entries : List Entry) → JournalInvariant session edits tracks entries →
    has_quit edits (length edits) ≡ false → (edition session edits (length edits)).transport.recording ≡ false →
    JournalInvariant session edits tracks (entry_of session edits entries tracks (no_takes session) (length edits) ∷ entries)
