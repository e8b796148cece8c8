-- The report that stands in lines is read.
use Rattle.std.proofs.Common.{◌≡◌, ℕ, suc, ◌+◌, ◌^◌, ◌<◌, ◌≤◌, false, List, [], ◌∷◌, ◌++◌, length, All, Some, Ok, Result, bytes_eq, refl, sym, ap, ◌∙◌, append_assoc, append-nil, add-zero, length-append, arith}
use Rattle.std.proofs.lemmas.List.Elements.{All-head, All-tail}
use Rattle.std.proofs.lemmas.Slice.Eq.{bytes_eq-Decides}
use Rattle.session_model.specs.declared.edit.Edit.{Edit}
use Rattle.engine_model.specs.Journal.{Entry}
use Rattle.edit_script.specs.Laws.{IsSayable}
use Rattle.edit_script.proofs.NumberLemmas.{not_true}
use Rattle.cycle_journal.specs.declared.head.ReportHead.{ReportHead}
use Rattle.cycle_journal.specs.Report.{Reported, first_line, format_line, edit_line, edit_lines, entry_line, entry_lines, end_line}
use Rattle.report_reader.specs.Grammar.{IsHead, IsEntry, IsReadable, IsReportAt}
use Rattle.report_reader.specs.Fields.{◌>>=◌}
use Rattle.report_reader.specs.Reading.{Before, Begun, Within, Whole, bare, with_item, reading}
use Rattle.report_reader.proofs.ItemLemmas.{edit_item, entry_item, end_item}
use Rattle.report_reader.proofs.LineLemmas.{format_again}
use Rattle.report_reader.proofs.ReadingLemmas.{good_line, head_step, item_step, first_step, skip_step, whole_stays}
use Rattle.report_reader.proofs.StageLemmas.{IsOther}

-- a report of these parts
abbrev pub parts : ReportHead → List Edit → List Entry → Reported
parts head edits entries = record { head = head; edits = edits; entries = entries }

-- ---- from the end on

pub end_read : (n first : ℕ) (r : Reported) (behind : List (List ℕ)) → length r.entries < 2 ^ 64 → reading n (Within first r) (end_line (length r.entries) ∷ behind) ≡ Ok (first, r)
end_read n first r behind small =
    let line = end_line (length r.entries) in
    good_line n (Within first r) (Whole first r) line behind (item_step n first r line ∙ ap (λ o. o >>= λ item. Some (with_item first r item)) (end_item r.head.cycles (length r.edits) (length r.entries) small))
    ∙ whole_stays (n + 1) first r behind

-- from the entries es on
entries_read : (fs : List Entry) (n first : ℕ) (head : ReportHead) (edits : List Edit) (es all : List Entry) (c : ℕ) (behind : List (List ℕ)) → all ≡ es ++ fs → c ≡ length es + 1 → IsHead head → length all ≤ head.cycles → All IsEntry fs →
    reading n (Within first (parts head edits es)) (entry_lines c fs ++ end_line (length all) ∷ behind) ≡ Ok (first, parts head edits all)
entries_read [] n first head edits es all c behind is number formed few kept =
    let same : es ≡ all = sym (append-nil es) ∙ sym is in
    ap (λ xs. reading n (Within first (parts head edits xs)) (end_line (length all) ∷ behind)) same
    ∙ end_read n first (parts head edits all) behind (omega (arith, few, formed.cycles.most))
entries_read (f ∷ fs) n first head edits es all c behind is number formed few kept =
    let r = parts head edits es in
    let rest = entry_lines (suc c) fs ++ end_line (length all) ∷ behind in
    let long : length all ≡ length es + suc (length fs) = ap length is ∙ length-append es (f ∷ fs) in
    let within : length es < head.cycles = omega (arith, few, long) in
    let small : length es + 1 < 2 ^ 64 = omega (arith, within, formed.cycles.most) in
    let next : suc c ≡ length (es ++ f ∷ []) + 1 = omega (arith, number, length-append es (f ∷ [])) in
    ap (λ k. reading n (Within first r) (entry_line k f ∷ rest)) number
    ∙ good_line n (Within first r) (Within first (parts head edits (es ++ f ∷ []))) (entry_line (length es + 1) f) rest
    (item_step n first r (entry_line (length es + 1) f) ∙ ap (λ o. o >>= λ item. Some (with_item first r item)) (entry_item head.cycles (length edits) (length es) f within small (All-head IsEntry f fs kept)))
    ∙ entries_read fs (n + 1) first head edits (es ++ f ∷ []) all (suc c) behind (is ∙ sym (append_assoc es (f ∷ []) fs)) next formed few (All-tail IsEntry f fs kept)

-- from the edits es on
edits_read : (fs : List Edit) (n first : ℕ) (head : ReportHead) (es all : List Edit) (entries : List Entry) (k : ℕ) (behind : List (List ℕ)) → all ≡ es ++ fs → k ≡ length es + 1 → IsHead head → length all ≤ 10000 → All IsSayable fs →
    length entries ≤ head.cycles → All IsEntry entries → reading n (Within first (parts head es [])) (edit_lines k fs ++ (entry_lines 1 entries ++ end_line (length entries) ∷ behind)) ≡ Ok (first, parts head all entries)
edits_read [] n first head es all entries k behind is number formed few kept few_entries entries_kept =
    let same : es ≡ all = sym (append-nil es) ∙ sym is in
    ap (λ xs. reading n (Within first (parts head xs [])) (entry_lines 1 entries ++ end_line (length entries) ∷ behind)) same
    ∙ entries_read entries n first head all [] entries 1 behind refl refl formed few_entries entries_kept
edits_read (f ∷ fs) n first head es all entries k behind is number formed few kept few_entries entries_kept =
    let r = parts head es [] in
    let rest = edit_lines (suc k) fs ++ (entry_lines 1 entries ++ end_line (length entries) ∷ behind) in
    let long : length all ≡ length es + suc (length fs) = ap length is ∙ length-append es (f ∷ fs) in
    let within : length es < 10000 = omega (arith, few, long) in
    let next : suc k ≡ length (es ++ f ∷ []) + 1 = omega (arith, number, length-append es (f ∷ [])) in
    ap (λ j. reading n (Within first r) (edit_line j f ∷ rest)) number
    ∙ good_line n (Within first r) (Within first (parts head (es ++ f ∷ []) [])) (edit_line (length es + 1) f) rest
    (item_step n first r (edit_line (length es + 1) f) ∙ ap (λ o. o >>= λ item. Some (with_item first r item)) (edit_item head.cycles (length es) f within (All-head IsSayable f fs kept)))
    ∙ edits_read fs (n + 1) first head (es ++ f ∷ []) all entries (suc k) behind (is ∙ sym (append_assoc es (f ∷ []) fs)) next formed few (All-tail IsSayable f fs kept) few_entries entries_kept

-- ---- from the first line on

pub head_read : (n first : ℕ) (head : ReportHead) (lines : List (List ℕ)) → IsHead head → reading n (Begun first) (format_line head ∷ lines) ≡ reading (n + 1) (Within first (bare head)) lines
head_read n first head lines is =
    good_line n (Begun first) (Within first (bare head)) (format_line head) lines (head_step n first (format_line head) ∙ ap (λ o. o >>= λ h. Some (Within first (bare h))) (format_again head is))

begun_read : (n first : ℕ) (r : Reported) (behind : List (List ℕ)) → IsReadable r → reading n (Begun first) (format_line r.head ∷ edit_lines 1 r.edits ++ (entry_lines 1 r.entries ++ end_line (length r.entries) ∷ behind)) ≡ Ok (first, r)
begun_read n first r behind is =
    head_read n first r.head (edit_lines 1 r.edits ++ (entry_lines 1 r.entries ++ end_line (length r.entries) ∷ behind)) is.head
    ∙ edits_read r.edits (n + 1) first r.head [] r.edits r.entries 1 behind refl refl is.head is.few_edits is.edits is.few is.entries

pub first_read : (n : ℕ) (lines : List (List ℕ)) → reading n Before (first_line ∷ lines) ≡ reading (n + 1) (Begun n) lines
first_read n lines = good_line n Before (Begun n) first_line lines (first_step n first_line ((bytes_eq-Decides first_line first_line).1 refl))

skipped_read : (before : List (List ℕ)) (n first : ℕ) (lines : List (List ℕ)) (total : Result (ℕ × Reported) ℕ) → first ≡ n + length before → All IsOther before → ((m : ℕ) → reading m (Begun first) lines ≡ total) →
    reading n Before (before ++ first_line ∷ lines) ≡ total
skipped_read [] n first lines total counted others behind =
    let same : n ≡ first = sym (counted ∙ add-zero n) in
    first_read n lines ∙ ap (λ k. reading (n + 1) (Begun k) lines) same ∙ behind (n + 1)
skipped_read (line ∷ before) n first lines total counted others behind =
    let other : bytes_eq line first_line ≡ false = not_true (bytes_eq line first_line) (λ same. All-head IsOther line before others ((bytes_eq-Decides line first_line).0 same)) in
    good_line n Before Before line (before ++ first_line ∷ lines) (skip_step n line other)
    ∙ skipped_read before (n + 1) first lines total (omega (arith, counted)) (All-tail IsOther line before others) behind

regroup : (edits entries behind : List (List ℕ)) (line : List ℕ) → edits ++ (entries ++ line ∷ []) ++ behind ≡ edits ++ (entries ++ line ∷ behind)
regroup edits entries behind line = append_assoc edits (entries ++ line ∷ []) behind ∙ ap (λ ls. edits ++ ls) (append_assoc entries (line ∷ []) behind)

-- what stands there is read
pub stands_read : (lines : List (List ℕ)) (first : ℕ) (r : Reported) → IsReportAt lines first r → reading 1 Before lines ≡ Ok (first, r)
stands_read lines first r at =
    ap (reading 1 Before) (at.is ∙ ap (λ ls. at.before ++ first_line ∷ format_line r.head ∷ ls) (regroup (edit_lines 1 r.edits) (entry_lines 1 r.entries) at.behind (end_line (length r.entries))))
    ∙ skipped_read at.before 1 first (format_line r.head ∷ edit_lines 1 r.edits ++ (entry_lines 1 r.entries ++ end_line (length r.entries) ∷ at.behind)) (Ok (first, r))
    (omega (arith, at.counted)) at.skipped (λ m. begun_read m first r at.behind at.readable)
