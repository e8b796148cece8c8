-- The report of a run, line by line (own): its form, each accepted edit, each entry of the journal, and how many entries there
-- are. Edits, entries, tracks and takes count from 1 in it, blocks of a generation and of a take from 0.
use Rattle.std.specs.Prelude.{ℕ, suc, ◌+◌, List, [], ◌∷◌, ◌++◌, length, codes, decimal}
use Rattle.ses_units.specs.Bits.{bits_of}
use Rattle.session_model.specs.declared.edit.Edit.{Edit}
use Rattle.engine_model.specs.Journal.{Play, Silent, Heard, Short, Take, Off, Taken, Lost, Note, State, Stopped, Seeking, Rolling, Entry}
use Rattle.edit_script.specs.Printing.{line_of_edit}
use Rattle.cycle_journal.specs.declared.head.ReportHead.{ReportHead}

-- what a report says
pub record Reported : Type 0 where
  pub head : ReportHead
  -- the accepted edits, in order
  pub edits : List Edit
  pub entries : List Entry

-- ---- notes

abbrev pub play_text : Play → List ℕ
play_text Silent = codes "-"
play_text (Heard touched) = codes "h" ++ decimal touched
play_text (Short tail) = codes "s" ++ decimal tail

abbrev pub take_text : Take → List ℕ
take_text Off = codes "-"
take_text (Taken take index) = codes "t" ++ decimal take ++ codes "." ++ decimal index
take_text (Lost take index head) = codes "l" ++ decimal take ++ codes "." ++ decimal index ++ codes "." ++ decimal head

abbrev pub note_text : Note → List ℕ
note_text note = play_text note.play ++ codes "/" ++ take_text note.take

-- each behind a blank
abbrev pub notes_text : List Note → List ℕ
notes_text [] = []
notes_text (note ∷ notes) = codes " " ++ note_text note ++ notes_text notes

-- ---- lines, without their line feeds

abbrev pub state_text : State → List ℕ
state_text Stopped = codes "stopped"
state_text (Seeking track tail) = codes "seeking " ++ decimal (track + 1) ++ codes " " ++ decimal tail
state_text (Rolling generation seq) = codes "rolling " ++ decimal generation ++ codes " " ++ decimal seq

abbrev pub first_line : List ℕ
first_line = codes "report 1"

abbrev pub format_line : ReportHead → List ℕ
format_line h = codes "format " ++ decimal h.rate ++ codes " " ++ decimal (bits_of h.bits) ++ codes " " ++ decimal h.channels
    ++ codes " " ++ decimal h.block ++ codes " " ++ decimal h.cycles

-- by its number
abbrev pub edit_line : ℕ → Edit → List ℕ
edit_line k edit = codes "edit " ++ decimal k ++ codes " " ++ line_of_edit edit

abbrev pub entry_line : ℕ → Entry → List ℕ
entry_line c e = codes "cycle " ++ decimal c ++ codes " " ++ decimal e.edition ++ codes " " ++ decimal e.settled ++ codes " " ++ state_text e.state ++ notes_text e.notes

abbrev pub end_line : ℕ → List ℕ
end_line entries = codes "end " ++ decimal entries

-- the lines of edits, of which the first has this number
abbrev pub edit_lines : ℕ → List Edit → List (List ℕ)
edit_lines k [] = []
edit_lines k (edit ∷ edits) = edit_line k edit ∷ edit_lines (suc k) edits

-- and those of entries
abbrev pub entry_lines : ℕ → List Entry → List (List ℕ)
entry_lines c [] = []
entry_lines c (e ∷ entries) = entry_line c e ∷ entry_lines (suc c) entries

-- **the lines of a report**
abbrev pub report_lines : Reported → List (List ℕ)
report_lines r = first_line ∷ format_line r.head ∷ edit_lines 1 r.edits ++ (entry_lines 1 r.entries ++ end_line (length r.entries) ∷ [])

-- lines, each with its line feed
abbrev pub ended : List (List ℕ) → List ℕ
ended [] = []
ended (line ∷ lines) = line ++ 10 ∷ ended lines

-- **the text of a report**
unfoldable pub report : Reported → List ℕ
report r = ended (report_lines r)
