-- What stands of all that comes after an entry that has an edition settled. Journals stand with their first entry first.
use Rattle.std.specs.Prelude.{◌≡◌, ℕ, ◌≤◌, true, List, ◌∷◌, ◌++◌, All}
use Rattle.session_model.specs.declared.session.Session.{Session}
use Rattle.session_model.specs.declared.edit.Edit.{Edit}
use Rattle.engine_model.specs.Edits.{playlist_edition, generation}
use Rattle.engine_model.specs.Journal.{Heard, Entry, note_of}
use Rattle.engine_model.specs.Fits.{is_lawful}

-- An entry plays nothing that is older than edition k.
pub record IsNoOlderThan (session : Session) (edits : List Edit) (k : ℕ) (e : Entry) : Type 0 where
  -- its cycle was in that edition or a later one
  pub edition : k ≤ e.edition
  -- and where that edition had located to, or had gone on from there
  pub generation : generation edits k ≤ generation edits e.edition
  -- no piece of a track is heard that is older than the track's playlist in that edition
  pub heard : (t p : ℕ) → (note_of t e).play ≡ Heard p → playlist_edition session edits t k ≤ p

-- Once an entry has edition k settled, it and every entry after it play nothing older.
abbrev pub AfterAnAcknowledgement : Type 0
AfterAnAcknowledgement = (session : Session) (edits : List Edit) (before later : List Entry) (e : Entry) (k : ℕ) →
    is_lawful session edits (before ++ e ∷ later) ≡ true → k ≤ e.settled → All (IsNoOlderThan session edits k) (e ∷ later)
