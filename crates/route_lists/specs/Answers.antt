-- What the calls answer.
use Rattle.std.specs.Prelude.{◌≡◌, ℕ, [], true, false, Result, Ok, Err}
use mathlib.Core.List.{IsPrefix}
use Rattle.atomic_table.specs.Seated.{TableId}
use Rattle.session_model.specs.declared.edit.Edit.{Edit}
use Rattle.edition_log.specs.EditionState.{EditionState}
use Rattle.edition_log.specs.Steps.{Applies}
use Rattle.route_lists.specs.declared.writing.PublishRefusal.{PublishRefusal}
use Rattle.route_lists.specs.declared.writing.PublishRefusal.TheVariants.{Refused, NoMemory}
use Rattle.route_lists.specs.Lists.{Published, Reading}

-- An accepted edit stands at the list's end; a refused one leaves the list, and so does want of memory.
abbrev pub Publishes : EditionState → Edit → Result ℕ PublishRefusal → EditionState → Type 0
Publishes old edit (Ok number) new = Applies old edit (Ok number) new
Publishes old edit (Err (Refused why)) new = Applies old edit (Err why) new
Publishes old edit (Err NoMemory) new = new ≡ old

-- What a reader sees after it entered: all that it saw, and all that it was told of; after the end the list stands.
pub record Enters (before after : Reading) : Type 0 where
  pub more : IsPrefix before.edition.edits after.edition.edits
  pub more_told : IsPrefix before.told after.edition.edits
  pub stands : before.edition.ended ≡ true → after.edition ≡ before.edition
  pub stands_told : before.told_end ≡ true → (after.edition.edits ≡ before.told) × (after.edition.ended ≡ true)

-- what a reader was told of is the same
abbrev pub HasSameTold : Reading → Reading → Type 0
HasSameTold before after = (after.told ≡ before.told) × (after.told_end ≡ before.told_end)

-- a reader of a new list: both its editions are this one, and it was told nothing
abbrev pub new_reader : EditionState → TableId → Reading
new_reader e table = record { edition = e; spare = e; told = []; told_end = false; table = table }

-- writer and readers have this edition, and come from one list
abbrev pub AreNew : EditionState → Published → Reading → Reading → Type 0
AreNew e writer first second = (writer.edition ≡ e) × (first ≡ new_reader e writer.table) × (second ≡ new_reader e writer.table)
