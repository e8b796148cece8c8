-- Which lines of a report stand, for a session, the sound of its tracks and the bytes of a master's file (own).
use Rattle.std.specs.Prelude.{ℕ, suc, ◌+◌, Bool, true, false, ◌&&◌, not, ◌==◌, List, [], ◌∷◌, ◌++◌, length, map, slice_get, Option, Some, None, Result, Ok, Err}
use Rattle.std.specs.List.{range_with_len}
use Rattle.std.specs.Option.{option_map, option_map_or}
use Rattle.sound_model.specs.Regions.{Sounds}
use Rattle.ses_units.specs.Bits.{bits_of}
use Rattle.session_model.specs.declared.session.Session.{Session}
use Rattle.session_model.specs.declared.edit.Edit.{Edit}
use Rattle.engine_model.specs.Editions.{apply, edition}
use Rattle.engine_model.specs.Fits.{is_lawful_after}
use Rattle.engine_model.specs.Journal.{Entry}
use Rattle.engine_model.specs.Played.{Samples, master_channels, samples_of}
use Rattle.cycle_journal.specs.declared.head.ReportHead.{ReportHead}
use Rattle.cycle_journal.specs.Report.{Reported}
use Rattle.master_blocks.specs.Bytes.{entry_bytes}
use Rattle.report_verdict.specs.Master.{block_place, has_form, is_silent_from, stand_at}

-- ---- the line of the form

abbrev pub is_head_of : Session → ReportHead → Bool
is_head_of s h = h.rate == s.rate && bits_of h.bits == bits_of s.bits && h.channels == master_channels s && h.block == s.block

-- it is the session's, and the master's file has that form
abbrev pub form_stands : Session → ReportHead → List ℕ → Bool
form_stands s h file = is_head_of s h && has_form s h.cycles file

-- ---- the lines of edits

abbrev pub is_taken : {E A : Type 0} → Result A E → Bool
is_taken (Ok x) = true
is_taken (Err why) = false

-- edit k, counted from 0, is accepted after those before it, none of which quits
abbrev pub edit_stands : Session → List Edit → ℕ → Bool
edit_stands s edits k = not (edition s edits k).transport.quit && option_map_or (λ edit. is_taken (apply (edition s edits k) edit)) (slice_get edits k) false

abbrev pub edits_stand : Session → List Edit → List Bool
edits_stand s edits = map (edit_stands s edits) (range_with_len 0 (length edits))

-- ---- the lines of entries; those before one stand newest first

-- it is lawful after those before it, and its block of the master is what it stands for
abbrev pub entry_stands : Session → List Edit → Samples → List ℕ → List Entry → Entry → Bool
entry_stands s edits samples file before e = is_lawful_after s edits before e && stand_at (block_place s (length before)) (entry_bytes s edits samples e) file

abbrev pub entries_stand : Session → List Edit → Samples → List ℕ → List Entry → List Entry → List Bool
entries_stand s edits samples file before [] = []
entries_stand s edits samples file before (e ∷ later) = entry_stands s edits samples file before e ∷ entries_stand s edits samples file (e ∷ before) later

-- the lines of the entries and the last one, which says that the master is silent behind them
abbrev pub entries_behind : Session → List Edit → Samples → List ℕ → ℕ → List Entry → List Bool
entries_behind s edits samples file cycles entries = entries_stand s edits samples file [] entries ++ is_silent_from s (length entries) cycles file ∷ []

-- ---- all lines

-- **which lines of a report stand**, from that of the form to the last
abbrev pub lines_stand : Session → Sounds → Reported → List ℕ → List Bool
lines_stand s sounds r file = form_stands s r.head file
    ∷ edits_stand s r.edits ++ entries_behind s r.edits (samples_of sounds s r.edits) file r.head.cycles r.entries

-- the place, from 0, of the first that doesn't stand
abbrev pub first_fall : List Bool → Option ℕ
first_fall [] = None
first_fall (false ∷ stand) = Some 0
first_fall (true ∷ stand) = option_map suc (first_fall stand)

-- the number of the first line that doesn't stand, where the report begins with this one
abbrev pub refuted_at : ℕ → List Bool → Option ℕ
refuted_at first stand = option_map (λ k. first + 1 + k) (first_fall stand)
