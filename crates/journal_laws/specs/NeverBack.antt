-- That nothing goes back along a journal. Journals stand with their first entry first.
use Rattle.std.specs.Prelude.{◌≡◌, ℕ, ◌≤◌, true, List, ◌∷◌, ◌++◌, All}
use Rattle.session_model.specs.declared.session.Session.{Session}
use Rattle.session_model.specs.declared.edit.Edit.{Edit}
use Rattle.engine_model.specs.Edits.{generation}
use Rattle.engine_model.specs.Journal.{Heard, Rolling, Entry, note_of}
use Rattle.engine_model.specs.Fits.{is_lawful}

-- An entry is no newer than another one.
pub record IsNoNewer (x y : Entry) : Type 0 where
  pub edition : x.edition ≤ y.edition
  pub settled : x.settled ≤ y.settled
  -- of each track it heard no newer playlist
  pub heard : (t p q : ℕ) → (note_of t x).play ≡ Heard p → (note_of t y).play ≡ Heard q → p ≤ q

-- No entry is newer than one that comes after it.
abbrev pub NothingGoesBack : Type 0
NothingGoesBack = (session : Session) (edits : List Edit) (before between later : List Entry) (x y : Entry) →
    is_lawful session edits (before ++ x ∷ (between ++ y ∷ later)) ≡ true → IsNoNewer x y

-- An entry that rolls plays in the generation of its own edition.
abbrev pub EachPlaysItsGeneration : Type 0
EachPlaysItsGeneration = (session : Session) (edits : List Edit) (journal : List Entry) → is_lawful session edits journal ≡ true →
    All (λ e. (g s : ℕ) → e.state ≡ Rolling g s → g ≡ generation edits e.edition) journal
