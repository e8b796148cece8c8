-- Journals whose takes are counted, entry by entry from the first one on.
use Rattle.std.proofs.Common.{◌≡◌, ℕ, zero, suc, List, [], ◌∷◌, ◌++◌, length, refl, sym, ap, subst, map, append_assoc, append-nil, ◌∙◌, ◌+◌, ◌<◌, ◌≤◌, ◌-◌, inl, inr, arith}
use Rattle.std.specs.Prelude.{true, max, reverse, get_or, take, drop, slice_index_or, All}
use Rattle.std.proofs.lemmas.Bool.{and_from, cases_lt}
use Rattle.std.proofs.lemmas.List.{length-map, reverse-append, take_all}
use Rattle.std.proofs.lemmas.List.Elements.{All-map}
use Rattle.session_model.specs.declared.session.Session.{Session}
use Rattle.engine_model.specs.Journal as engine
use Rattle.engine_model.specs.Journal.{note_at, note_of}
use Rattle.engine_model.specs.Fits.{greatest_take, last_take, next_take, take_after, take_number}
use Rattle.cycle_journal.specs.JournalView.{seen_note, seen_take, seen_entry, seen_entries}
use Rattle.cycle_journal.specs.declared.note.Note.{Note}
use Rattle.cycle_journal.specs.declared.entry.Entry.{Entry}
use Rattle.capture_flush.specs.Finished.{are_counted, goes_on, IsCounted}

-- what a note of a journal took, as definitions see it
note_seen : (t : ℕ) (notes : List Note) (d : Note) → t < length notes → seen_take (get_or notes t d).take ≡ (note_at t (map seen_note notes)).take
note_seen t [] d lt = absurd (omega arith)
note_seen zero (n ∷ ns) d lt = refl
note_seen (suc t) (n ∷ ns) d lt = note_seen t ns d (omega arith)

-- ---- one entry more

turned : (e : engine.Entry) (es before : List engine.Entry) → reverse (e ∷ es) ++ before ≡ reverse es ++ (e ∷ before)
turned e es before = ap (λ l. l ++ before) (reverse-append (e ∷ []) es) ∙ append_assoc (reverse es) (e ∷ []) before

-- entries go on after those before them, where the last of these took `last` and no take is greater than `most`
abbrev pub GoOn : ℕ → engine.Take → ℕ → List engine.Entry → Type 0
GoOn t last most es = (before : List engine.Entry) → last ≡ last_take t before → most ≡ greatest_take t before → are_counted t before ≡ true →
    are_counted t (reverse es ++ before) ≡ true

go_on_more : (t : ℕ) (last take : engine.Take) (most : ℕ) (e : engine.Entry) (es : List engine.Entry) → take ≡ (note_of t e).take →
    goes_on (take_after last most) take ≡ true → GoOn t take (max (take_number take) most) es → GoOn t last most (e ∷ es)
go_on_more t last take most e es is goes rest before same_last same_most counted = ap (are_counted t) (turned e es before)
    ∙ rest (e ∷ before) is (ap (λ k. max (take_number k) most) is ∙ ap (max (take_number (note_of t e).take)) same_most)
    (and_from (goes_on (next_take t before) (note_of t e).take) (are_counted t before) (sym here ∙ goes) counted)
  where
    here : goes_on (take_after last most) take ≡ goes_on (next_take t before) (note_of t e).take
    here = ap (λ k. goes_on (take_after k most) take) same_last ∙ ap (λ n. goes_on (take_after (last_take t before) n) take) same_most ∙ ap (goes_on (next_take t before)) is

-- the entries are the first one and the others, which go on after it
pub go_on_step : (t : ℕ) (last : engine.Take) (most next n : ℕ) (entries : List Entry) (e : Entry) (notes : List Note) (d : Note) → 1 ≤ length entries →
    e ≡ get_or entries 0 e → length entries - 1 ≤ n → All (λ k. t < length k.notes.items) entries → notes ≡ e.notes.items →
    next ≡ max (take_number (seen_take (get_or notes t d).take)) most → goes_on (take_after last most) (seen_take (get_or notes t d).take) ≡ true →
    GoOn t (seen_take (get_or notes t d).take) next (seen_entries (take n (drop 1 entries))) → GoOn t last most (seen_entries entries)
go_on_step t last most next n [] e notes d some first le many are more goes rest = absurd (omega arith)
go_on_step t last most next n (k ∷ ks) e notes d some first le many are more goes rest = let took = seen_take (get_or notes t d).take in
    let same : notes ≡ k.notes.items = are ∙ ap (λ x. x.notes.items) first in
    let whole : take n ks ≡ ks = take_all n ks (omega arith) in
    go_on_more t last took most (seen_entry k) (seen_entries ks) (ap (λ l. seen_take (get_or l t d).take) same ∙ note_seen t k.notes.items d (many 0 k (omega arith))) goes
    (subst (λ m. GoOn t took m (seen_entries ks)) more (subst (λ l. GoOn t took next (seen_entries l)) whole rest))

-- ---- all of them

-- the takes of one track more are counted
pub counted_more : (track : ℕ) (journal : List engine.Entry) → ((t : ℕ) → t < track → are_counted t (reverse journal) ≡ true) → GoOn track engine.Off 0 journal →
    (t : ℕ) → t < track + 1 → are_counted t (reverse journal) ≡ true
counted_more track journal before go_on t lt = elim (cases_lt t track) [
  | inl less ↦ before t less
  | inr most ↦ subst (λ u. are_counted u (reverse journal) ≡ true) {x = track} {y = t} (omega arith)
      (sym (ap (are_counted track) (append-nil (reverse journal))) ∙ go_on [] refl refl refl)
]

-- and those of every track
pub are_all_counted : (tracks : ℕ) (entries : List Entry) → All (λ e. length e.notes.items ≡ tracks) entries →
    ((t : ℕ) → t < tracks → are_counted t (reverse (seen_entries entries)) ≡ true) → (s : Session) → length s.tracks.items ≡ tracks → IsCounted s (seen_entries entries)
are_all_counted tracks entries notes takes s many = record {
  notes = All-map (λ e. length e.notes ≡ length s.tracks.items) seen_entry entries
      (λ i d lt. length-map (slice_index_or entries i d).notes.items seen_note ∙ notes i d lt ∙ sym many);
  takes = λ t lt. takes t (subst (λ n. t < n) many lt);
}
