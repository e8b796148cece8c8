-- The text of a report, cut into its parts and into its lines, and given to a page part by part.
use Rattle.std.proofs.Common.{◌≡◌, ℕ, ◌+◌, ◌<◌, ◌≤◌, List, [], ◌∷◌, ◌++◌, length, drop, get_or, sym, ap, ◌∙◌, suc, add-one, append-nil, append_assoc, refl, subst, Result, Ok, OnOk}
use Rattle.std.proofs.lemmas.List.{at_drop_more, at_drop_all}
use Rattle.ses_io.specs.declared.errors.Failed.{Failed}
use Rattle.ses_io.specs.Outside.{SinkOutside, Writes}
use Rattle.session_model.specs.declared.edit.Edit.{Edit}
use Rattle.cycle_journal.specs.declared.entry.Entry.{Entry}
use Rattle.cycle_journal.specs.JournalView.{seen_entry, seen_entries}
use Rattle.cycle_journal.specs.Page.{Adds}
use Rattle.cycle_journal.specs.Report.{Reported, first_line, format_line, edit_line, edit_lines, entry_line, entry_lines, end_line, ended, report}
use Rattle.cycle_journal.proofs.PageLemmas.{adds_nothing, adds_more, adds_then, written}

pub ended-append : (xs ys : List (List ℕ)) → ended (xs ++ ys) ≡ ended xs ++ ended ys
ended-append [] ys = refl
ended-append (x ∷ xs) ys = ap (λ (t : List ℕ). x ++ 10 ∷ t) (ended-append xs ys) ∙ sym (append_assoc x (10 ∷ ended xs) (ended ys))

-- ---- its parts, each with all that follows it

abbrev pub end_on : Reported → List ℕ
end_on r = ended (end_line (length r.entries) ∷ []) ++ []

abbrev pub entries_on : Reported → List ℕ
entries_on r = ended (entry_lines 1 r.entries) ++ end_on r

abbrev pub edits_on : Reported → List ℕ
edits_on r = ended (edit_lines 1 r.edits) ++ entries_on r

report_parts : (r : Reported) → report r ≡ ended (first_line ∷ format_line r.head ∷ []) ++ edits_on r
unfolding report
report_parts r =
    let heads = first_line ∷ format_line r.head ∷ [] in
    let edits = edit_lines 1 r.edits in
    let entries = entry_lines 1 r.entries in
    let last = end_line (length r.entries) ∷ [] in
    ended-append heads (edits ++ (entries ++ last))
    ∙ ap (λ (t : List ℕ). ended heads ++ t) (ended-append edits (entries ++ last)
    ∙ ap (λ (t : List ℕ). ended edits ++ t) (ended-append entries last ∙ ap (λ (t : List ℕ). ended entries ++ t) (sym (append-nil (ended last)))))

-- what an empty page takes behind the first two lines makes the report
pub report_written : {S : Type 0} (outside : SinkOutside S) (rep : Reported) (none w w1 : List ℕ) (s s1 : S) (r : Result (Unit {0}) Failed) → none ≡ [] → w ≡ none ++ ended (first_line ∷ format_line rep.head ∷ []) →
    Adds outside (edits_on rep) w w1 s s1 r → OnOk r (w1 ≡ []) → Writes outside (report rep) s s1 r
report_written outside rep none w w1 s s1 r is begun adds empty =
    let heads = ended (first_line ∷ format_line rep.head ∷ []) in
    let first : Adds {E = Failed} outside heads [] w s s (Ok tt) = adds_more outside [] heads [] [] w s s (adds_nothing outside [] s) (begun ∙ ap (λ (t : List ℕ). t ++ heads) is) in
    written outside (report rep) w1 s s1 r
    (subst (λ (p : List ℕ). Adds outside p [] w1 s s1 r) (sym (report_parts rep)) (adds_then outside heads (edits_on rep) [] w w1 s s s1 r first adds))
    empty

-- ---- its lines

-- the lines from edit i on, counted from 0, begin with its line
pub edits_more : (edits : List Edit) (i : ℕ) (e : Edit) → i < length edits → e ≡ get_or edits i e → ended (edit_lines (i + 1) (drop i edits)) ≡ edit_line (i + 1) e ++ 10 ∷ ended (edit_lines (i + 1 + 1) (drop (i + 1) edits))
edits_more edits i e within is =
    at_drop_more (λ (es : List Edit). ended (edit_lines (i + 1) es)) edits i e within
    ∙ ap (λ (x : Edit). edit_line (i + 1) x ++ 10 ∷ ended (edit_lines (suc (i + 1)) (drop (i + 1) edits))) (sym is)
    ∙ ap (λ (k : ℕ). edit_line (i + 1) e ++ 10 ∷ ended (edit_lines k (drop (i + 1) edits))) (sym (add-one (i + 1)))

pub edits_done : (edits : List Edit) (i : ℕ) → length edits ≤ i → ended (edit_lines (i + 1) (drop i edits)) ≡ []
edits_done edits i all = at_drop_all (λ (es : List Edit). ended (edit_lines (i + 1) es)) edits i all

-- and those of entries
pub entries_more : (entries : List Entry) (i : ℕ) (e : Entry) → i < length entries → e ≡ get_or entries i e →
    ended (entry_lines (i + 1) (seen_entries (drop i entries))) ≡ entry_line (i + 1) (seen_entry e) ++ 10 ∷ ended (entry_lines (i + 1 + 1) (seen_entries (drop (i + 1) entries)))
entries_more entries i e within is =
    at_drop_more (λ (es : List Entry). ended (entry_lines (i + 1) (seen_entries es))) entries i e within
    ∙ ap (λ (x : Entry). entry_line (i + 1) (seen_entry x) ++ 10 ∷ ended (entry_lines (suc (i + 1)) (seen_entries (drop (i + 1) entries)))) (sym is)
    ∙ ap (λ (k : ℕ). entry_line (i + 1) (seen_entry e) ++ 10 ∷ ended (entry_lines k (seen_entries (drop (i + 1) entries)))) (sym (add-one (i + 1)))

pub entries_done : (entries : List Entry) (i : ℕ) → length entries ≤ i → ended (entry_lines (i + 1) (seen_entries (drop i entries))) ≡ []
entries_done entries i all = at_drop_all (λ (es : List Entry). ended (entry_lines (i + 1) (seen_entries es))) entries i all
