use Rattle.std.proofs.Common.{◌≡◌, ℕ, List, [], ◌∷◌, ◌++◌, length, Result, subst, sym, ap, ◌∙◌}
use Rattle.std.proofs.lemmas.List.{length-map}
use Rattle.std.proofs.lemmas.Result.{IfOk-from_err}
use Rattle.ses_io.specs.declared.errors.Failed.{Failed}
use Rattle.ses_io.specs.Outside.{SinkOutside}
use Rattle.session_model.specs.declared.edit.Edit.{Edit}
use Rattle.cycle_journal.specs.declared.entry.Entry.{Entry}
use Rattle.cycle_journal.specs.JournalView.{seen_entry, seen_entries}
use Rattle.cycle_journal.specs.Page.{Adds}
use Rattle.cycle_journal.specs.Report.{edit_lines, entry_lines, end_line, ended}
use Rattle.cycle_journal.specs.RunReport.{reported}
use Rattle.cycle_journal.proofs.PageLemmas.{adds_more, adds_then, adds_fails}
use Rattle.cycle_journal.proofs.ReportLemmas.{end_on, entries_on, report_written}
use Rattle.cycle_journal.proofs.writing.write_report.Goals as goal

edits_of : {S : Type 0} (outside : SinkOutside S) (es items : List Edit) (w w1 : List ℕ) (s s1 : S) (r : Result (Unit {0}) Failed) → es ≡ items → Adds outside (ended (edit_lines 1 es)) w w1 s s1 r → Adds outside (ended (edit_lines 1 items)) w w1 s s1 r
edits_of outside es items w w1 s s1 r same = subst (λ (xs : List Edit). Adds outside (ended (edit_lines 1 xs)) w w1 s s1 r) same

entries_of : {S : Type 0} (outside : SinkOutside S) (es items : List Entry) (w w1 : List ℕ) (s s1 : S) (r : Result (Unit {0}) Failed) → es ≡ items →
    Adds outside (ended (entry_lines 1 (seen_entries es))) w w1 s s1 r → Adds outside (ended (entry_lines 1 (seen_entries items))) w w1 s s1 r
entries_of outside es items w w1 s s1 r same = subst (λ (xs : List Entry). Adds outside (ended (entry_lines 1 (seen_entries xs))) w w1 s s1 r) same

end_of : (es items : List Entry) (w w1 : List ℕ) → es ≡ items → w1 ≡ w ++ ended (end_line (length es) ∷ []) → w1 ≡ w ++ ended (end_line (length (seen_entries items)) ∷ [])
end_of es items w w1 same is = is ∙ ap (λ (n : ℕ). w ++ ended (end_line n ∷ [])) (ap length same ∙ sym (length-map items seen_entry))

pub returns-in_err-write_edits : goal.returns-in_err-write_edits
returns-in_err-write_edits g c =
    let o = g.O.Sink.outside in
    let r = c.from_residual.result in
    let rep = reported c.args.head.now c.args.edits.now.items c.args.j.now.items in
    let bad = c.from_residual.ensures.0 in
    report_written o rep _ c.head.new.self.text.bytes [] _ _ r c.new-page.ensures c.head.ensures
    (adds_fails o (ended (edit_lines 1 rep.edits)) (entries_on rep) _ _ [] _ _ _ r (edits_of o _ _ _ _ _ _ _ c.as_slice.ensures.items c.in_err-write_edits.ensures) bad)
    (IfOk-from_err r _ bad)

pub returns-in_err-write_entries : goal.returns-in_err-write_entries
returns-in_err-write_entries g c =
    let o = g.O.Sink.outside in
    let r = c.from_residual-in_err-write_entries.result in
    let rep = reported c.args.head.now c.args.edits.now.items c.args.j.now.items in
    let bad = c.from_residual-in_err-write_entries.ensures.0 in
    report_written o rep _ c.head.new.self.text.bytes [] _ _ r c.new-page.ensures c.head.ensures
    (adds_then o (ended (edit_lines 1 rep.edits)) (entries_on rep) _ _ [] _ _ _ r (edits_of o _ _ _ _ _ _ _ c.as_slice.ensures.items c.in_ok-write_edits.ensures)
    (adds_fails o (ended (entry_lines 1 rep.entries)) (end_on rep) _ _ [] _ _ _ r (entries_of o _ _ _ _ _ _ _ c.entries-entries.ensures.entries c.in_err-write_entries.ensures) bad))
    (IfOk-from_err r _ bad)

pub returns-in_err-make_room : goal.returns-in_err-make_room
returns-in_err-make_room g c =
    let o = g.O.Sink.outside in
    let r = c.from_residual-in_err-make_room.result in
    let rep = reported c.args.head.now c.args.edits.now.items c.args.j.now.items in
    let bad = c.from_residual-in_err-make_room.ensures.0 in
    report_written o rep _ c.head.new.self.text.bytes [] _ _ r c.new-page.ensures c.head.ensures
    (adds_then o (ended (edit_lines 1 rep.edits)) (entries_on rep) _ _ [] _ _ _ r (edits_of o _ _ _ _ _ _ _ c.as_slice.ensures.items c.in_ok-write_edits.ensures)
    (adds_then o (ended (entry_lines 1 rep.entries)) (end_on rep) _ _ [] _ _ _ r (entries_of o _ _ _ _ _ _ _ c.entries-entries.ensures.entries c.in_ok-write_entries.ensures)
    (adds_fails o [] (end_on rep) _ _ [] _ _ _ r c.in_err-make_room.ensures.adds bad)))
    (IfOk-from_err r _ bad)

pub returns : goal.returns
returns g c =
    let o = g.O.Sink.outside in
    let r = c.write_out.result in
    let rep = reported c.args.head.now c.args.edits.now.items c.args.j.now.items in
    let last = ended (end_line (length rep.entries) ∷ []) in
    report_written o rep _ c.head.new.self.text.bytes c.write_out.new.self.text.bytes _ _ r c.new-page.ensures c.head.ensures
    (adds_then o (ended (edit_lines 1 rep.edits)) (entries_on rep) _ _ _ _ _ _ r (edits_of o _ _ _ _ _ _ _ c.as_slice.ensures.items c.in_ok-write_edits.ensures)
    (adds_then o (ended (entry_lines 1 rep.entries)) (end_on rep) _ _ _ _ _ _ r (entries_of o _ _ _ _ _ _ _ c.entries-entries.ensures.entries c.in_ok-write_entries.ensures)
    (adds_then o last [] _ c.end.new.self.text.bytes _ _ _ _ r
    (adds_more o [] last _ _ _ _ _ c.in_ok-make_room.ensures.adds (end_of c.entries-entries.result.now c.args.j.now.items _ _ c.entries-entries.ensures.entries c.end.ensures))
    c.write_out.ensures.adds)))
    c.write_out.ensures.empty
