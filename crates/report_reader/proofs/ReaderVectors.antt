-- Lines and files, worked.
use Rattle.std.proofs.Common.{◌≡◌, ℕ, true, false, List, [], ◌∷◌, Some, None, Ok, Err, codes, refl}
use Rattle.ses_units.specs.declared.bits.Bits.TheVariants.{B16}
use Rattle.session_model.specs.declared.edit.Edit.TheVariants as edit
use Rattle.engine_model.specs.Journal.{Off, Short, Stopped, Rolling}
use Rattle.edit_script.specs.Reading.{verb_by}
use Rattle.std.specs.Fmt.{digits}
use Rattle.cycle_journal.specs.Report.{Reported}
use Rattle.report_reader.specs.Grammar.{IsReportAt, IsBadLine}
use Rattle.report_reader.specs.Fields.{numeral, number_in, numbered}
use Rattle.report_reader.specs.Notes.{play_in, taken_in, lost_in, take_in, note_in, notes_in, seeking_in, rolling_in, state_in}
use Rattle.report_reader.specs.Lines.{format_in, edit_in, entry_in, is_end}
use Rattle.report_reader.specs.Items.{item_in}
use Rattle.report_reader.specs.Reading.{Before, cut, lines_of, step, reading}
use Rattle.report_reader.proofs.BadLemmas.{refused_line, read_report_stands}

-- ---- lines

format : format_in (codes "format 48000 16 1 4 2") ≡ Some (record { rate = 48000; bits = B16; channels = 1; block = 4; cycles = 2 })
unfolding format_in numbered number_in numeral
format = refl

bits_between : format_in (codes "format 48000 20 1 4 2") ≡ None
unfolding format_in numbered number_in numeral
bits_between = refl

blank_behind : format_in (codes "format 48000 16 1 4 2 ") ≡ None
unfolding format_in numbered number_in numeral
blank_behind = refl

located : edit_in 1 (codes "edit 1 locate 0") ≡ Some (edit.Locate 0)
unfolding edit_in numbered number_in numeral verb_by digits
located = refl

not_canonical : edit_in 1 (codes "edit 1 locate 00") ≡ None
unfolding edit_in numbered number_in numeral verb_by digits
not_canonical = refl

wrong_number : edit_in 1 (codes "edit 2 roll") ≡ None
unfolding edit_in numbered number_in numeral
wrong_number = refl

short_after_first : entry_in 2 (codes "cycle 2 1 1 rolling 0 1 s2/-") ≡ Some (record { edition = 1; settled = 1; state = Rolling 0 1; notes = record { play = Short 2; take = Off } ∷ [] })
unfolding entry_in state_in seeking_in rolling_in notes_in note_in play_in take_in taken_in lost_in numbered number_in numeral
short_after_first = refl

gap : entry_in 2 (codes "cycle 3 1 1 stopped") ≡ None
unfolding entry_in numbered number_in numeral
gap = refl

end : is_end 2 (codes "end 2") ≡ true
unfolding is_end numbered number_in numeral
end = refl

other_end : is_end 2 (codes "end 3") ≡ false
unfolding is_end numbered number_in numeral
other_end = refl

-- ---- items

entry_where_all_cycles_are : item_in 1 0 1 (codes "cycle 2 1 1 stopped") ≡ None
unfolding item_in entry_in edit_in is_end numbered number_in numeral
entry_where_all_cycles_are = refl

edit_behind_an_entry : item_in 9 0 1 (codes "edit 1 roll") ≡ None
unfolding item_in entry_in edit_in is_end numbered number_in numeral
edit_behind_an_entry = refl

-- ---- files

unfinished_line : cut (codes "a\n\nend") ≡ (codes "a" ∷ [] ∷ [], codes "end")
unfolding cut
unfinished_line = refl

abbrev behind_noise : List ℕ
behind_noise = codes "noise\nreport 1\nformat 8000 16 1 1 1\nedit 1 roll\ncycle 1 2 2 stopped\nend 1\nmore\n"

abbrev one_cycle : Reported
one_cycle = record {
  head = record { rate = 8000; bits = B16; channels = 1; block = 1; cycles = 1 };
  edits = edit.Roll ∷ [];
  entries = record { edition = 2; settled = 2; state = Stopped; notes = [] } ∷ [];
}

second_line : reading 1 Before (lines_of behind_noise) ≡ Ok (2, one_cycle)
unfolding reading step cut format_in item_in entry_in edit_in is_end state_in seeking_in rolling_in notes_in note_in play_in take_in taken_in lost_in numbered number_in numeral verb_by digits
second_line = refl

-- and there it stands
second_line_stands : IsReportAt (lines_of behind_noise) 2 one_cycle
second_line_stands = read_report_stands (lines_of behind_noise) (2, one_cycle) second_line

wrong_end : reading 1 Before (lines_of (codes "report 1\nformat 8000 16 1 1 1\nend 1\n")) ≡ Err 3
unfolding reading step cut format_in item_in entry_in edit_in is_end numbered number_in numeral
wrong_end = refl

-- no report has that line there
wrong_end_is_bad : IsBadLine (lines_of (codes "report 1\nformat 8000 16 1 1 1\nend 1\n")) 3
wrong_end_is_bad = refused_line (lines_of (codes "report 1\nformat 8000 16 1 1 1\nend 1\n")) 3 wrong_end

-- the last line isn't ended, so it is none
no_end : reading 1 Before (lines_of (codes "report 1\nformat 8000 16 1 1 1\nend 0")) ≡ Err 3
unfolding reading step cut format_in item_in entry_in edit_in is_end numbered number_in numeral
no_end = refl

no_report : reading 1 Before (lines_of (codes "noise\n")) ≡ Err 2
unfolding reading step cut
no_report = refl
