use Rattle.std.proofs.Common.{◌≡◌, ℕ, ◌+◌, ◌<◌, ◌≤◌, List, ◌++◌, length, map, drop, get_or, codes, sym, ap, ◌∙◌, arith, append-nil, append_assoc}
use Rattle.std.proofs.lemmas.List.{at_drop_more, at_drop_all}
use Rattle.cycle_journal.specs.declared.note.Note.{Note}
use Rattle.cycle_journal.specs.JournalView.{seen_note}
use Rattle.cycle_journal.specs.Report.{note_text, notes_text}
use Rattle.cycle_journal.proofs.page.Page.notes.Goals as goal

note_more : (old new whole : List ℕ) (notes : List Note) (i : ℕ) (d : Note) → i < length notes → new ≡ old ++ (codes " " ++ note_text (seen_note (get_or notes i d))) →
    old ++ notes_text (map seen_note (drop i notes)) ≡ whole → new ++ notes_text (map seen_note (drop (i + 1) notes)) ≡ whole
note_more old new whole notes i d within more told =
    ap (λ (t : List ℕ). t ++ notes_text (map seen_note (drop (i + 1) notes))) more
    ∙ append_assoc old (codes " " ++ note_text (seen_note (get_or notes i d))) (notes_text (map seen_note (drop (i + 1) notes)))
    ∙ ap (λ (t : List ℕ). old ++ t) (sym (at_drop_more (λ (ns : List Note). notes_text (map seen_note ns)) notes i d within))
    ∙ told

notes_all : (now whole : List ℕ) (notes : List Note) (i : ℕ) → length notes ≤ i → now ++ notes_text (map seen_note (drop i notes)) ≡ whole → now ≡ whole
notes_all now whole notes i all told =
    sym (append-nil now) ∙ ap (λ (t : List ℕ). now ++ t) (sym (at_drop_all (λ (ns : List Note). notes_text (map seen_note ns)) notes i all)) ∙ told

pub loop-note-preserved : goal.loop-note-preserved
loop-note-preserved c = record {
  told = note_more c.loop-note.self.text.bytes c.note.new.self.text.bytes _ c.args.notes.now c.loop-note.note-index _ c.loop-note-test.true c.note.ensures.bytes c.loop-note.invariant.told;
  long = omega (arith, c.note.ensures.long, c.loop-note.invariant.long);
}

pub returns-clause-bytes : goal.returns-clause-bytes
returns-clause-bytes c = notes_all c.loop-note.self.text.bytes _ c.args.notes.now c.loop-note.note-index c.loop-note-test.false c.loop-note.invariant.told
