-- What a line behind the format line says (own): an edit, an entry, or that the report ends.
use Rattle.std.specs.Prelude.{ℕ, ◌+◌, ◌&&◌, ◌==◌, nat_lt, if◌then◌else◌, List, Option, Some, None}
use Rattle.session_model.specs.declared.edit.Edit.{Edit}
use Rattle.engine_model.specs.Journal.{Entry}
use Rattle.cycle_journal.specs.JournalView.{seen_entry}
use Rattle.report_reader.specs.declared.items.Item as code
use Rattle.report_reader.specs.declared.items.Item.TheVariants as items
use Rattle.report_reader.specs.Fields.{chosen}
use Rattle.report_reader.specs.Lines.{edit_in, entry_in, is_end}

pub data Item : Type 0 where
  AnEdit : Edit → Item
  AnEntry : Entry → Item
  AnEnd : Item

abbrev pub seen_item : code.Item → Item
seen_item (items.Edit edit) = AnEdit edit
seen_item (items.Entry e) = AnEntry (seen_entry e)
seen_item items.End = AnEnd

-- the next edit, behind so many edits and entries: no entry stands before an edit
abbrev pub next_edit : ℕ → ℕ → List ℕ → Option Edit
next_edit edits entries line = if entries == 0 && nat_lt edits 10000 then edit_in (edits + 1) line else None

-- the next entry, where so many cycles were asked
abbrev pub next_entry : ℕ → ℕ → List ℕ → Option Entry
next_entry cycles entries line = if nat_lt entries cycles then entry_in (entries + 1) line else None

unfoldable pub item_in : ℕ → ℕ → ℕ → List ℕ → Option Item
item_in cycles edits entries line = chosen (next_edit edits entries line) (λ edit. Some (AnEdit edit)) (chosen (next_entry cycles entries line) (λ e. Some (AnEntry e)) (if is_end entries line then Some AnEnd else None))
