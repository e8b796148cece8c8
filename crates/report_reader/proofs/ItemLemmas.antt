-- An item that is read is what its line says, and the line of each is read as it.
use Rattle.std.proofs.Common.{◌≡◌, ℕ, ◌+◌, ◌^◌, ◌<◌, Bool, true, false, ◌&&◌, ◌==◌, nat_lt, List, Option, Some, None, inl, inr, refl, ap, subst, ◌∙◌, arith, eqb-true, ltb-true, lt-ltb}
use Rattle.std.specs.Prelude.{if◌then◌else◌}
use Rattle.std.proofs.lemmas.Option.{same_Some, cond_some}
use Rattle.session_model.specs.declared.edit.Edit.{Edit}
use Rattle.engine_model.specs.Journal.{Entry}
use Rattle.edit_script.specs.Laws.{IsSayable}
use Rattle.edit_script.proofs.NumberLemmas.{left, right}
use Rattle.cycle_journal.specs.Report.{edit_line, entry_line, end_line}
use Rattle.report_reader.specs.Grammar.{IsEntry}
use Rattle.report_reader.specs.Fields.{chosen, numbered}
use Rattle.report_reader.specs.Lines.{edit_in, entry_in, is_end}
use Rattle.report_reader.specs.Items.{Item, AnEdit, AnEntry, AnEnd, next_edit, next_entry, item_in}
use Rattle.report_reader.proofs.FieldLemmas.{chosen_some, if_some}
use Rattle.report_reader.proofs.LineLemmas.{IsEditLine, IsEntryLine, edit_is, edit_again, entry_is, entry_again, end_is, end_again}

-- a line, as the item that it says
abbrev pub IsItem : ℕ → ℕ → ℕ → List ℕ → Item → Type 0
IsItem cycles edits entries line (AnEdit e) = (entries ≡ 0) × (edits < 10000) × IsEditLine (edits + 1) line e
IsItem cycles edits entries line (AnEntry e) = (entries < cycles) × IsEntryLine (entries + 1) line e
IsItem cycles edits entries line AnEnd = line ≡ end_line entries

edit_there : (cycles edits entries : ℕ) (line : List ℕ) (e : Edit) → next_edit edits entries line ≡ Some e → IsItem cycles edits entries line (AnEdit e)
edit_there cycles edits entries line e read =
    let g = if_some (entries == 0 && nat_lt edits 10000) (edit_in (edits + 1) line) e read in
    (eqb-true entries 0 (left (entries == 0) (nat_lt edits 10000) g.0), ltb-true edits 10000 (right (entries == 0) (nat_lt edits 10000) g.0), edit_is (edits + 1) line e g.1)

entry_there : (cycles edits entries : ℕ) (line : List ℕ) (e : Entry) → next_entry cycles entries line ≡ Some e → IsItem cycles edits entries line (AnEntry e)
entry_there cycles edits entries line e read =
    let g = if_some (nat_lt entries cycles) (entry_in (entries + 1) line) e read in (ltb-true entries cycles g.0, entry_is (entries + 1) line e g.1)

pub item_is : (cycles edits entries : ℕ) (line : List ℕ) (item : Item) → item_in cycles edits entries line ≡ Some item → IsItem cycles edits entries line item
unfolding item_in
item_is cycles edits entries line item read =
    elim (chosen_some (next_edit edits entries line) (λ e. Some (AnEdit e)) (chosen (next_entry cycles entries line) (λ e. Some (AnEntry e)) (if is_end entries line then Some AnEnd else None)) item read) [
      | inl p ↦ subst (IsItem cycles edits entries line) (same_Some (AnEdit p.0) item p.2) (edit_there cycles edits entries line p.0 p.1)
      | inr q ↦ elim (chosen_some (next_entry cycles entries line) (λ e. Some (AnEntry e)) (if is_end entries line then Some AnEnd else None) item q) [
        | inl p ↦ subst (IsItem cycles edits entries line) (same_Some (AnEntry p.0) item p.2) (entry_there cycles edits entries line p.0 p.1)
        | inr r ↦ let g = cond_some (is_end entries line) AnEnd item r in subst (IsItem cycles edits entries line) g.1 (end_is entries line g.0)
      ]
    ]

-- ---- and back

pub edit_item : (cycles edits : ℕ) (e : Edit) → edits < 10000 → IsSayable e → item_in cycles edits 0 (edit_line (edits + 1) e) ≡ Some (AnEdit e)
unfolding item_in
edit_item cycles edits e few is =
    let line = edit_line (edits + 1) e in
    let there : next_edit edits 0 line ≡ Some e = ap (λ b. if b then edit_in (edits + 1) line else None) (lt-ltb edits 10000 few) ∙ edit_again (edits + 1) e (omega (arith, few)) is in
    ap (λ o. chosen o (λ x. Some (AnEdit x)) (chosen (next_entry cycles 0 line) (λ x. Some (AnEntry x)) (if is_end 0 line then Some AnEnd else None))) there

-- no line of an entry, and no last line, is that of an edit
no_edit : (b : Bool) (read : Option Edit) → read ≡ None → (if b then read else None) ≡ None
no_edit true read none = none
no_edit false read none = refl

no_entry : (b : Bool) (read : Option Entry) → read ≡ None → (if b then read else None) ≡ None
no_entry true read none = none
no_entry false read none = refl

entry_no_edit : (k c : ℕ) (e : Entry) → edit_in k (entry_line c e) ≡ None
unfolding edit_in numbered
entry_no_edit k c e = refl

end_no_edit : (k c : ℕ) → edit_in k (end_line c) ≡ None
unfolding edit_in numbered
end_no_edit k c = refl

end_no_entry : (k c : ℕ) → entry_in k (end_line c) ≡ None
unfolding entry_in numbered
end_no_entry k c = refl

pub entry_item : (cycles edits entries : ℕ) (e : Entry) → entries < cycles → entries + 1 < 2 ^ 64 → IsEntry e → item_in cycles edits entries (entry_line (entries + 1) e) ≡ Some (AnEntry e)
unfolding item_in
entry_item cycles edits entries e few small is =
    let line = entry_line (entries + 1) e in
    let other : next_edit edits entries line ≡ None = no_edit (entries == 0 && nat_lt edits 10000) (edit_in (edits + 1) line) (entry_no_edit (edits + 1) (entries + 1) e) in
    let there : next_entry cycles entries line ≡ Some e = ap (λ b. if b then entry_in (entries + 1) line else None) (lt-ltb entries cycles few) ∙ entry_again (entries + 1) e small is in
    ap (λ o. chosen o (λ x. Some (AnEdit x)) (chosen (next_entry cycles entries line) (λ x. Some (AnEntry x)) (if is_end entries line then Some AnEnd else None))) other
    ∙ ap (λ o. chosen o (λ x. Some (AnEntry x)) (if is_end entries line then Some AnEnd else None)) there

pub end_item : (cycles edits entries : ℕ) → entries < 2 ^ 64 → item_in cycles edits entries (end_line entries) ≡ Some AnEnd
unfolding item_in
end_item cycles edits entries small =
    let line = end_line entries in
    let other : next_edit edits entries line ≡ None = no_edit (entries == 0 && nat_lt edits 10000) (edit_in (edits + 1) line) (end_no_edit (edits + 1) entries) in
    let none : next_entry cycles entries line ≡ None = no_entry (nat_lt entries cycles) (entry_in (entries + 1) line) (end_no_entry (entries + 1) entries) in
    ap (λ o. chosen o (λ x. Some (AnEdit x)) (chosen (next_entry cycles entries line) (λ x. Some (AnEntry x)) (if is_end entries line then Some AnEnd else None))) other
    ∙ ap (λ o. chosen o (λ x. Some (AnEntry x)) (if is_end entries line then Some AnEnd else None)) none
    ∙ ap (λ b. if b then Some AnEnd else None) (end_again entries small)
