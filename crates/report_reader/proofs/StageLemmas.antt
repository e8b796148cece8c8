-- What is read so far is what stands in the lines so far.
use Rattle.std.proofs.Common.{◌≡◌, ℕ, suc, ◌+◌, Bool, true, false, List, [], ◌∷◌, ◌++◌, length, All, Option, Some, None, Result, Ok, Err, ◌≢◌, bytes_eq, refl, sym, ap, subst, ◌∙◌, append_assoc, append-nil, add-zero, length-append, arith}
use Rattle.std.specs.Prelude.{if◌then◌else◌}
use Rattle.std.proofs.lemmas.Bool.{true≢false}
use Rattle.std.proofs.lemmas.List.{nil_from_length}
use Rattle.std.proofs.lemmas.List.Elements.{All-nil, All-push}
use Rattle.std.proofs.lemmas.Option.{same_Some}
use Rattle.std.proofs.lemmas.Slice.Eq.{bytes_eq-Decides}
use Rattle.session_model.specs.declared.edit.Edit.{Edit}
use Rattle.engine_model.specs.Journal.{Entry}
use Rattle.edit_script.specs.Laws.{IsSayable}
use Rattle.cycle_journal.specs.declared.head.ReportHead.{ReportHead}
use Rattle.cycle_journal.specs.Report.{Reported, first_line, format_line, edit_line, edit_lines, entry_line, entry_lines, report_lines}
use Rattle.report_reader.specs.Grammar.{IsHead, IsEntry, IsReadable, IsReportAt}
use Rattle.report_reader.specs.Fields.{chosen}
use Rattle.report_reader.specs.Lines.{format_in}
use Rattle.report_reader.specs.Items.{Item, AnEdit, AnEntry, AnEnd, item_in}
use Rattle.report_reader.specs.Reading.{Stage, Before, Begun, Within, Whole, bare, with_item, step, ended, reading}
use Rattle.report_reader.proofs.FieldLemmas.{some_of}
use Rattle.report_reader.proofs.ItemLemmas.{IsItem, item_is}
use Rattle.report_reader.proofs.LineLemmas.{format_is}
use Rattle.report_reader.proofs.ReadingLemmas.{head_step}

abbrev pub IsOther : List ℕ → Type 0
IsOther line = line ≢ first_line

-- ---- the lines of a report so far

abbrev pub heads : ReportHead → List Edit → List (List ℕ)
heads head edits = first_line ∷ format_line head ∷ edit_lines 1 edits

abbrev pub so_far : Reported → List (List ℕ)
so_far r = heads r.head r.edits ++ entry_lines 1 r.entries

edit_lines_push : (k : ℕ) (edits : List Edit) (e : Edit) → edit_lines k (edits ++ e ∷ []) ≡ edit_lines k edits ++ edit_line (k + length edits) e ∷ []
edit_lines_push k [] e = ap (λ n. edit_line n e ∷ []) (sym (add-zero k))
edit_lines_push k (x ∷ edits) e =
    let next : suc k + length edits ≡ k + suc (length edits) = omega arith in
    ap (λ ls. edit_line k x ∷ ls) (edit_lines_push (suc k) edits e ∙ ap (λ n. edit_lines (suc k) edits ++ edit_line n e ∷ []) next)

entry_lines_push : (c : ℕ) (entries : List Entry) (e : Entry) → entry_lines c (entries ++ e ∷ []) ≡ entry_lines c entries ++ entry_line (c + length entries) e ∷ []
entry_lines_push c [] e = ap (λ n. entry_line n e ∷ []) (sym (add-zero c))
entry_lines_push c (x ∷ entries) e =
    let next : suc c + length entries ≡ c + suc (length entries) = omega arith in
    ap (λ ls. entry_line c x ∷ ls) (entry_lines_push (suc c) entries e ∙ ap (λ n. entry_lines (suc c) entries ++ entry_line n e ∷ []) next)

with_edit : (head : ReportHead) (edits : List Edit) (entries : List Entry) (e : Edit) (line : List ℕ) → entries ≡ [] → line ≡ edit_line (length edits + 1) e →
    heads head edits ++ entry_lines 1 entries ++ line ∷ [] ≡ heads head (edits ++ e ∷ []) ++ entry_lines 1 entries
with_edit head edits entries e line none is =
    let number : length edits + 1 ≡ 1 + length edits = omega arith in
    ap (λ es. heads head edits ++ entry_lines 1 es ++ line ∷ []) none
    ∙ ap (λ ls. first_line ∷ format_line head ∷ ls) (ap (λ ls. ls ++ line ∷ []) (append-nil (edit_lines 1 edits)) ∙ ap (λ l. edit_lines 1 edits ++ l ∷ []) (is ∙ ap (λ n. edit_line n e) number)
    ∙ sym (edit_lines_push 1 edits e) ∙ sym (append-nil (edit_lines 1 (edits ++ e ∷ []))))
    ∙ ap (λ es. heads head (edits ++ e ∷ []) ++ entry_lines 1 es) (sym none)

with_entry : (top : List (List ℕ)) (entries : List Entry) (e : Entry) (line : List ℕ) → line ≡ entry_line (length entries + 1) e → top ++ entry_lines 1 entries ++ line ∷ [] ≡ top ++ entry_lines 1 (entries ++ e ∷ [])
with_entry top entries e line is =
    let number : length entries + 1 ≡ 1 + length entries = omega arith in
    append_assoc top (entry_lines 1 entries) (line ∷ [])
    ∙ ap (λ ls. top ++ ls) (ap (λ l. entry_lines 1 entries ++ l ∷ []) (is ∙ ap (λ n. entry_line n e) number) ∙ sym (entry_lines_push 1 entries e))

-- ---- what a stage says of the lines before it

pub record IsBegun (lines : List (List ℕ)) (first : ℕ) : Type 0 where
  pub before : List (List ℕ)
  pub is : lines ≡ before ++ first_line ∷ []
  pub counted : first ≡ suc (length before)
  pub skipped : All IsOther before

pub record IsSoFar (lines : List (List ℕ)) (first : ℕ) (r : Reported) : Type 0 where
  pub readable : IsReadable r
  pub before : List (List ℕ)
  pub is : lines ≡ before ++ so_far r
  pub counted : first ≡ suc (length before)
  pub skipped : All IsOther before

abbrev pub After : List (List ℕ) → Stage → Type 0
After lines Before = All IsOther lines
After lines (Begun first) = IsBegun lines first
After lines (Within first r) = IsSoFar lines first r
After lines (Whole first r) = IsReportAt lines first r

-- ---- a line more

first_after : (lines : List (List ℕ)) (n : ℕ) (next : Stage) (line : List ℕ) (b : Bool) → n ≡ suc (length lines) → All IsOther lines → bytes_eq line first_line ≡ b → (if b then Some (Begun n) else Some Before) ≡ Some next →
    After (lines ++ line ∷ []) next
first_after lines n next line true counted others is e = subst (After (lines ++ line ∷ [])) (same_Some (Begun n) next e) (record {
  before = lines;
  is = ap (λ l. lines ++ l ∷ []) ((bytes_eq-Decides line first_line).0 is);
  counted = counted;
  skipped = others;
})
first_after lines n next line false counted others other e =
    subst (After (lines ++ line ∷ [])) (same_Some Before next e) (All-push IsOther lines line others (λ same. true≢false (sym ((bytes_eq-Decides line first_line).1 same) ∙ other)))

pub bare_is : (head : ReportHead) → IsHead head → IsReadable (bare head)
bare_is head is = record { head = is; few_edits = omega arith; edits = All-nil IsSayable; few = omega arith; entries = All-nil IsEntry }

head_after : (lines : List (List ℕ)) (n first : ℕ) (next : Stage) (line : List ℕ) → IsBegun lines first → step n (Begun first) line ≡ Some next → After (lines ++ line ∷ []) next
head_after lines n first next line b e =
    let h = some_of (format_in line) (λ head. Some (Within first (bare head))) next (sym (head_step n first line) ∙ e) in
    let f = format_is line h.0 h.1 in
    subst (After (lines ++ line ∷ [])) (same_Some (Within first (bare h.0)) next h.2) (record {
      readable = bare_is h.0 f.head;
      before = b.before;
      is = ap (λ ls. ls ++ line ∷ []) b.is ∙ append_assoc b.before (first_line ∷ []) (line ∷ []) ∙ ap (λ l. b.before ++ first_line ∷ l ∷ []) f.is;
      counted = b.counted;
      skipped = b.skipped;
    })

more : (lines before old new : List (List ℕ)) (line : List ℕ) → lines ≡ before ++ old → old ++ line ∷ [] ≡ new → lines ++ line ∷ [] ≡ before ++ new
more lines before old new line is one = ap (λ ls. ls ++ line ∷ []) is ∙ append_assoc before old (line ∷ []) ∙ ap (λ ls. before ++ ls) one

item_after : (lines : List (List ℕ)) (first : ℕ) (r : Reported) (line : List ℕ) (item : Item) → IsSoFar lines first r → IsItem r.head.cycles (length r.edits) (length r.entries) line item → After (lines ++ line ∷ []) (with_item first r item)
item_after lines first r line (AnEdit e) s is = record {
  readable = record {
    head = s.readable.head;
    few_edits = omega (arith, length-append r.edits (e ∷ []), is.1);
    edits = All-push IsSayable r.edits e s.readable.edits is.2.edit;
    few = s.readable.few;
    entries = s.readable.entries;
  };
  before = s.before;
  is = more lines s.before (so_far r) (heads r.head (r.edits ++ e ∷ []) ++ entry_lines 1 r.entries) line s.is (with_edit r.head r.edits r.entries e line (nil_from_length r.entries is.0) is.2.is);
  counted = s.counted;
  skipped = s.skipped;
}
item_after lines first r line (AnEntry e) s is = record {
  readable = record {
    head = s.readable.head;
    few_edits = s.readable.few_edits;
    edits = s.readable.edits;
    few = omega (arith, length-append r.entries (e ∷ []), is.0);
    entries = All-push IsEntry r.entries e s.readable.entries is.1.entry;
  };
  before = s.before;
  is = more lines s.before (so_far r) (heads r.head r.edits ++ entry_lines 1 (r.entries ++ e ∷ [])) line s.is (with_entry (heads r.head r.edits) r.entries e line is.1.is);
  counted = s.counted;
  skipped = s.skipped;
}
item_after lines first r line AnEnd s is = record {
  readable = s.readable;
  before = s.before;
  behind = [];
  is = more lines s.before (so_far r) (report_lines r ++ []) line s.is
      (append_assoc (heads r.head r.edits) (entry_lines 1 r.entries) (line ∷ []) ∙ ap (λ l. heads r.head r.edits ++ (entry_lines 1 r.entries ++ l ∷ [])) is ∙ sym (append-nil (report_lines r)));
  counted = s.counted;
  skipped = s.skipped;
}

pub step_after : (lines : List (List ℕ)) (n : ℕ) (stage next : Stage) (line : List ℕ) → n ≡ suc (length lines) → After lines stage → step n stage line ≡ Some next → After (lines ++ line ∷ []) next
unfolding step
step_after lines n Before next line counted others e = first_after lines n next line (bytes_eq line first_line) counted others refl e
step_after lines n (Begun first) next line counted b e = head_after lines n first next line b e
step_after lines n (Within first r) next line counted s e =
    let i = some_of (item_in r.head.cycles (length r.edits) (length r.entries) line) (λ item. Some (with_item first r item)) next e in
    subst (After (lines ++ line ∷ [])) (same_Some (with_item first r i.0) next i.2) (item_after lines first r line i.0 s (item_is r.head.cycles (length r.edits) (length r.entries) line i.0 i.1))
step_after lines n (Whole first r) next line counted w e = subst (After (lines ++ line ∷ [])) (same_Some (Whole first r) next e) (record {
  readable = w.readable;
  before = w.before;
  behind = w.behind ++ line ∷ [];
  is = more lines w.before (report_lines r ++ w.behind) (report_lines r ++ (w.behind ++ line ∷ [])) line w.is (append_assoc (report_lines r) w.behind (line ∷ []));
  counted = w.counted;
  skipped = w.skipped;
})

-- ---- all lines

abbrev Found : ℕ × Reported → Result (ℕ × Reported) ℕ
Found x = Ok x

found_is : (x y : ℕ × Reported) → Found x ≡ Found y → x ≡ y
found_is x y e = cc

ended_after : (lines : List (List ℕ)) (n : ℕ) (stage : Stage) (x : ℕ × Reported) → After lines stage → ended n stage ≡ Ok x → IsReportAt lines x.0 x.1
ended_after lines n Before x a e = absurd (cc)
ended_after lines n (Begun first) x a e = absurd (cc)
ended_after lines n (Within first r) x a e = absurd (cc)
ended_after lines n (Whole first r) x a e = subst (λ (y : ℕ × Reported). IsReportAt lines y.0 y.1) (found_is (first, r) x e) a

onward : (n : ℕ) (o : Option Stage) (lines : List (List ℕ)) (x : ℕ × Reported) → chosen o (λ next. reading (n + 1) next lines) (Err n) ≡ Ok x → (next : Stage) × (o ≡ Some next) × (reading (n + 1) next lines ≡ Ok x)
onward n (Some next) lines x e = (next, refl, e)
onward n None lines x e = absurd (cc)

pub counted_more : (lines : List (List ℕ)) (line : List ℕ) (n : ℕ) → n ≡ suc (length lines) → n + 1 ≡ suc (length (lines ++ line ∷ []))
counted_more lines line n counted = omega (arith, counted, length-append lines (line ∷ []))

-- what is read stands there
pub read_stands : (lines rest : List (List ℕ)) (n : ℕ) (stage : Stage) (x : ℕ × Reported) → n ≡ suc (length lines) → After lines stage → reading n stage rest ≡ Ok x → IsReportAt (lines ++ rest) x.0 x.1
unfolding reading
read_stands lines [] n stage x counted a e = subst (λ ls. IsReportAt ls x.0 x.1) (sym (append-nil lines)) (ended_after lines n stage x a e)
read_stands lines (line ∷ rest) n stage x counted a e =
    let o = onward n (step n stage line) rest x e in
    subst (λ ls. IsReportAt ls x.0 x.1) (append_assoc lines (line ∷ []) rest)
    (read_stands (lines ++ line ∷ []) rest (n + 1) o.0 x (counted_more lines line n counted) (step_after lines n stage o.0 line counted a o.1) o.2)
