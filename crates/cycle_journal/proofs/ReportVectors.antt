-- Reports, worked.
use Rattle.std.proofs.Common.{◌≡◌, refl, [], ◌∷◌, codes}
use Rattle.std.specs.Fmt.{digits}
use Rattle.ses_units.specs.declared.bits.Bits.TheVariants.{B16, B24}
use Rattle.session_model.specs.declared.edit.Edit.TheVariants as edit
use Rattle.engine_model.specs.Journal.{Silent, Heard, Short, Off, Taken, Lost, Stopped, Seeking, Rolling}
use Rattle.cycle_journal.specs.Report.{note_text, entry_line, report}

-- two cycles of a track from a first edition on
base_export : report (record {
  head = record { rate = 48000; bits = B16; channels = 1; block = 4; cycles = 2 };
  edits = edit.Locate 0 ∷ edit.Roll ∷ [];
  entries =
      record { edition = 2; settled = 2; state = Rolling 1 0; notes = record { play = Heard 0; take = Off } ∷ [] } ∷
      record { edition = 2; settled = 2; state = Rolling 1 1; notes = record { play = Heard 0; take = Off } ∷ [] } ∷
      [];
}) ≡ codes "report 1\nformat 48000 16 1 4 2\nedit 1 locate 0\nedit 2 roll\ncycle 1 2 2 rolling 1 0 h0/-\ncycle 2 2 2 rolling 1 1 h0/-\nend 2\n"
unfolding digits report
base_export = refl

-- no cycle at all
nothing_run : report (record { head = record { rate = 44100; bits = B24; channels = 2; block = 64; cycles = 9 }; edits = []; entries = [] }) ≡ codes "report 1\nformat 44100 24 2 64 9\nend 0\n"
unfolding digits report
nothing_run = refl

short_after_first : entry_line 2 (record { edition = 1; settled = 1; state = Rolling 0 1; notes = record { play = Short 2; take = Off } ∷ [] }) ≡ codes "cycle 2 1 1 rolling 0 1 s2/-"
unfolding digits
short_after_first = refl

-- the track at index 0 is track 1
read_fault_at_data : entry_line 1 (record { edition = 2; settled = 2; state = Seeking 0 1; notes = record { play = Silent; take = Off } ∷ [] }) ≡ codes "cycle 1 2 2 seeking 1 1 -/-"
unfolding digits
read_fault_at_data = refl

stopped : entry_line 7 (record { edition = 3; settled = 1; state = Stopped; notes = record { play = Silent; take = Off } ∷ record { play = Silent; take = Off } ∷ [] }) ≡ codes "cycle 7 3 1 stopped -/- -/-"
unfolding digits
stopped = refl

-- ---- a block that finds its ring full

first_block : note_text (record { play = Heard 0; take = Taken 1 0 }) ≡ codes "h0/t1.0"
unfolding digits
first_block = refl

second_block : note_text (record { play = Short 2; take = Taken 1 1 }) ≡ codes "s2/t1.1"
unfolding digits
second_block = refl

lost_block : note_text (record { play = Short 2; take = Lost 1 2 0 }) ≡ codes "s2/l1.2.0"
unfolding digits
lost_block = refl
