-- In a lawful journal the takes of each track are counted.
use Rattle.std.proofs.Common.{◌≡◌, ℕ, zero, suc, ◌+◌, ◌<◌, List, [], ◌∷◌, length, refl, sym, subst, arith}
use Rattle.std.specs.Prelude.{Bool, true, ◌&&◌, nat_eq, reverse, All}
use Rattle.std.proofs.lemmas.Bool.{and_from, and_parts, eqb-true}
use Rattle.std.proofs.lemmas.List.{reverse-append, reverse-reverse}
use Rattle.std.proofs.lemmas.List.Elements.{All-cons, All-head, All-nil, All-push, All-tail}
use Rattle.session_model.specs.declared.edit.Edit.{Edit}
use Rattle.session_model.specs.declared.session.Session.{Session}
use Rattle.engine_model.specs.Editions.{Edition, edition}
use Rattle.engine_model.specs.Edits.{generation}
use Rattle.engine_model.specs.Journal.{Take, Off, Taken, Lost, Note, Entry, is_rolling, note_at, note_of, rolled}
use Rattle.engine_model.specs.Fits.{fits_note, fits_notes, fits_play, fits_state, fits_take, is_lawful_after, is_lawful_newest, next_take, records}
use Rattle.engine_laws.proofs.LawfulLemmas.{fits_parts, lawful_parts}
use Rattle.capture_flush.specs.Finished.{are_counted, goes_on}
use Rattle.capture_flush.specs.Laws.{ALawfulJournalIsCounted}

-- ---- one entry

-- a note that fits goes on
goes : (recorded : Bool) (next : ℕ × ℕ) (take : Take) → fits_take recorded next take ≡ true → goes_on next take ≡ true
goes recorded next Off fit = refl
goes recorded next (Taken n i) fit = let two = and_parts (recorded && nat_eq n next.0) (nat_eq i next.1) fit in
    and_from (nat_eq n next.0) (nat_eq i next.1) (and_parts recorded (nat_eq n next.0) two.0).1 two.1
goes recorded next (Lost n i head) fit = let two = and_parts (recorded && nat_eq n next.0) (nat_eq i next.1) fit in
    and_from (nat_eq n next.0) (nat_eq i next.1) (and_parts recorded (nat_eq n next.0) two.0).1 two.1

-- so does that of each track, where the first note is that of track u
note_goes : (now : Edition) (rolling : Bool) (n : ℕ) (before : List Entry) (u i : ℕ) (notes : List Note) → i < length notes → fits_notes now rolling n before u notes ≡ true →
    goes_on (next_take (u + i) before) (note_at i notes).take ≡ true
note_goes now rolling n before u i [] lt fit = absurd (omega arith)
note_goes now rolling n before u zero (note ∷ notes) lt fit = let parts = and_parts (fits_note now rolling n before u note) (fits_notes now rolling n before (suc u) notes) fit in
    subst (λ k. goes_on (next_take k before) note.take ≡ true) {x = u} {y = u + 0} (omega arith)
    (goes (rolling && records now u) (next_take u before) note.take (and_parts (fits_play rolling n note.play) (fits_take (rolling && records now u) (next_take u before) note.take) parts.0).1)
note_goes now rolling n before u (suc i) (note ∷ notes) lt fit = let parts = and_parts (fits_note now rolling n before u note) (fits_notes now rolling n before (suc u) notes) fit in
    subst (λ k. goes_on (next_take k before) (note_at i notes).take ≡ true) {x = suc u + i} {y = u + suc i} (omega arith)
    (note_goes now rolling n before (suc u) i notes (omega arith) parts.1)

-- it has a note for each track, and each goes on
record Fits (s : Session) (before : List Entry) (e : Entry) : Type 0 where
  many : length e.notes ≡ length s.tracks.items
  takes : (t : ℕ) → t < length s.tracks.items → goes_on (next_take t before) (note_of t e).take ≡ true

fits_it : (s : Session) (edits : List Edit) (before : List Entry) (e : Entry) → is_lawful_after s edits before e ≡ true → Fits s before e
fits_it s edits before e lawful = let now = edition s edits e.edition in let g = generation edits e.edition in
    let state = fits_state now.transport.rolling (length s.tracks.items) g (rolled g before) e.state in let long = nat_eq (length e.notes) (length s.tracks.items) in
    let notes = fits_notes now (is_rolling e.state) (rolled g before) before 0 e.notes in
    let two = and_parts (state && long) notes (fits_parts s edits before e (lawful_parts s edits before e lawful).fit).2 in
    let many : length e.notes ≡ length s.tracks.items = eqb-true (length e.notes) (length s.tracks.items) (and_parts state long two.0).1 in record {
      many = many;
      takes = λ t lt. subst (λ k. goes_on (next_take k before) (note_at t e.notes).take ≡ true) {x = 0 + t} {y = t} (omega arith)
          (note_goes now (is_rolling e.state) (rolled g before) before 0 t e.notes (omega (arith, many)) two.1);
    }

-- ---- all of them

HasNotes : Session → Entry → Type 0
HasNotes s e = length e.notes ≡ length s.tracks.items

all_turned : {X : Type 0} (P : X → Type 0) (xs : List X) → All P xs → All P (reverse xs)
all_turned P [] all = all
all_turned P (x ∷ xs) all = subst (All P) (sym (reverse-append (x ∷ []) xs)) (All-push P (reverse xs) x (all_turned P xs (All-tail P x xs all)) (All-head P x xs all))

all_notes : (s : Session) (edits : List Edit) (entries : List Entry) → is_lawful_newest s edits entries ≡ true → All (HasNotes s) entries
unfolding HasNotes
all_notes s edits [] lawful = All-nil (HasNotes s)
all_notes s edits (e ∷ before) lawful = let step = and_parts (is_lawful_after s edits before e) (is_lawful_newest s edits before) lawful in
    All-cons (HasNotes s) e before (fits_it s edits before e step.0).many (all_notes s edits before step.1)

all_counted : (s : Session) (edits : List Edit) (t : ℕ) (entries : List Entry) → t < length s.tracks.items → is_lawful_newest s edits entries ≡ true → are_counted t entries ≡ true
all_counted s edits t [] lt lawful = refl
all_counted s edits t (e ∷ before) lt lawful = let step = and_parts (is_lawful_after s edits before e) (is_lawful_newest s edits before) lawful in
    and_from (goes_on (next_take t before) (note_of t e).take) (are_counted t before) ((fits_it s edits before e step.0).takes t lt) (all_counted s edits t before lt step.1)

pub a_lawful_journal_is_counted : ALawfulJournalIsCounted
unfolding HasNotes
a_lawful_journal_is_counted s edits journal lawful = record {
  notes = subst (All (HasNotes s)) (reverse-reverse journal) (all_turned (HasNotes s) (reverse journal) (all_notes s edits (reverse journal) lawful));
  takes = λ t lt. all_counted s edits t (reverse journal) lt lawful;
}
