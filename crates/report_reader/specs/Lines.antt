-- What one line of a report says (own). A line is read to its end.
use Rattle.std.specs.Prelude.{ℕ, Bool, ◌==◌, if◌then◌else◌, List, length, Option, Some, None, Result, Ok, Err, codes, bytes_eq}
use Rattle.std.specs.Option.{is_some}
use Rattle.ses_units.specs.declared.bits.Bits.{Bits}
use Rattle.ses_units.specs.declared.bits.Bits.TheVariants.{B16, B24}
use Rattle.session_model.specs.declared.edit.Edit.{Edit}
use Rattle.engine_model.specs.Journal.{Entry}
use Rattle.edit_script.specs.declared.command.Command.{Command}
use Rattle.edit_script.specs.declared.command.Command.TheVariants.{Do, Wait, Sync, Nothing}
use Rattle.edit_script.specs.declared.refusal.LineRefusal.{LineRefusal}
use Rattle.edit_script.specs.Printing.{line_of_edit}
use Rattle.edit_script.specs.Reading.{said}
use Rattle.cycle_journal.specs.declared.head.ReportHead.{ReportHead}
use Rattle.report_reader.specs.Fields.{◌>>=◌, after, numbered}
use Rattle.report_reader.specs.Notes.{state_in, notes_in}

-- a value, where nothing is left
abbrev pub whole : {A : Type 0} → A → List ℕ → Option A
whole x rest = if length rest == 0 then Some x else None

abbrev pub bits_in : ℕ → Option Bits
bits_in n = if n == 16 then Some B16 else (if n == 24 then Some B24 else None)

-- the line of a form
unfoldable pub format_in : List ℕ → Option ReportHead
format_in line = do
  rate ← numbered (codes "format ") 8000 192000 line
  count ← numbered (codes " ") 16 24 rate.1
  bits ← bits_in count.0
  channels ← numbered (codes " ") 1 2 count.1
  block ← numbered (codes " ") 1 4096 channels.1
  cycles ← numbered (codes " ") 1 100000 block.1
  whole (record { rate = rate.0; bits = bits; channels = channels.0; block = block.0; cycles = cycles.0 }) cycles.1

-- the edit that a text reads as, where it is its one canonical line
abbrev pub canonical : List ℕ → Result Command LineRefusal → Option Edit
canonical text (Ok (Do edit)) = if bytes_eq (line_of_edit edit) text then Some edit else None
canonical text (Ok (Wait n)) = None
canonical text (Ok Sync) = None
canonical text (Ok Nothing) = None
canonical text (Err why) = None

-- the line of the edit of this number
unfoldable pub edit_in : ℕ → List ℕ → Option Edit
edit_in k line = do
  number ← numbered (codes "edit ") k k line
  text ← after (codes " ") number.1
  canonical text (said text)

-- the line of the entry of this number
unfoldable pub entry_in : ℕ → List ℕ → Option Entry
entry_in c line = do
  number ← numbered (codes "cycle ") c c line
  edition ← numbered (codes " ") 0 10000 number.1
  settled ← numbered (codes " ") 0 10000 edition.1
  text ← after (codes " ") settled.1
  state ← state_in text
  notes ← notes_in 32 state.1
  Some (record { edition = edition.0; settled = settled.0; state = state.0; notes = notes })

-- the last line, of so many entries
unfoldable pub is_end : ℕ → List ℕ → Bool
is_end entries line = is_some (numbered (codes "end ") entries entries line >>= λ n. whole n.0 n.1)
