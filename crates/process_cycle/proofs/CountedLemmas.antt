-- The entries that a process makes have a note for each track, and their takes are counted.
use Rattle.std.proofs.Common.{◌≡◌, ℕ, zero, suc, ◌+◌, ◌<◌, List, [], ◌∷◌, length, refl, sym, ap, subst, arith, ◌∙◌}
use Rattle.std.specs.Prelude.{Bool, true, ◌&&◌, nat_eq, reverse, All}
use Rattle.std.proofs.lemmas.Bool.{and_from, and_parts}
use Rattle.std.proofs.lemmas.List.{reverse-append, reverse-reverse}
use Rattle.std.proofs.lemmas.List.Elements.{All-cons, All-head, All-nil, All-push, All-tail}
use Rattle.session_model.specs.declared.edit.Edit.{Edit}
use Rattle.session_model.specs.declared.session.Session.{Session}
use Rattle.engine_model.specs.Editions.{Edition, edition}
use Rattle.engine_model.specs.Items.{Kind}
use Rattle.engine_model.specs.Journal.{Take, Off, Taken, Lost, State, Entry, is_rolling, note_at, note_of}
use Rattle.engine_model.specs.Cycle.{notes_of, entry_of}
use Rattle.engine_model.specs.Fits.{fits_take, next_take, records}
use Rattle.engine_model.specs.Made.{AreMade, fit_takes}
use Rattle.capture_flush.specs.Finished.{are_counted, goes_on, IsCounted}

-- ---- one entry

-- a take that fits goes on
goes : (recorded : Bool) (next : ℕ × ℕ) (take : Take) → fits_take recorded next take ≡ true → goes_on next take ≡ true
goes recorded next Off fit = refl
goes recorded next (Taken n i) fit = let two = and_parts (recorded && nat_eq n next.0) (nat_eq i next.1) fit in
    and_from (nat_eq n next.0) (nat_eq i next.1) (and_parts recorded (nat_eq n next.0) two.0).1 two.1
goes recorded next (Lost n i head) fit = let two = and_parts (recorded && nat_eq n next.0) (nat_eq i next.1) fit in
    and_from (nat_eq n next.0) (nat_eq i next.1) (and_parts recorded (nat_eq n next.0) two.0).1 two.1

notes_long : (state : State) (tracks : List (List Kind)) (takes : List Take) → length takes ≡ length tracks → length (notes_of state tracks takes) ≡ length tracks
notes_long state [] takes is = refl
notes_long state (xs ∷ tracks) [] is = absurd (omega arith)
notes_long state (xs ∷ tracks) (take ∷ takes) is = ap suc (notes_long state tracks takes (omega arith))

-- so does what is noted of each track, where the first is track u
note_goes : (now : Edition) (rolling : Bool) (before : List Entry) (state : State) (u i : ℕ) (tracks : List (List Kind)) (takes : List Take) → i < length tracks →
    length takes ≡ length tracks → fit_takes now rolling before u takes ≡ true → goes_on (next_take (u + i) before) (note_at i (notes_of state tracks takes)).take ≡ true
note_goes now rolling before state u i [] takes lt each fit = absurd (omega arith)
note_goes now rolling before state u i (xs ∷ tracks) [] lt each fit = absurd (omega arith)
note_goes now rolling before state u zero (xs ∷ tracks) (take ∷ takes) lt each fit =
    let parts = and_parts (fits_take (rolling && records now u) (next_take u before) take) (fit_takes now rolling before (suc u) takes) fit in
    subst (λ k. goes_on (next_take k before) take ≡ true) {x = u} {y = u + 0} (omega arith) (goes (rolling && records now u) (next_take u before) take parts.0)
note_goes now rolling before state u (suc i) (xs ∷ tracks) (take ∷ takes) lt each fit =
    let parts = and_parts (fits_take (rolling && records now u) (next_take u before) take) (fit_takes now rolling before (suc u) takes) fit in
    subst (λ k. goes_on (next_take k before) (note_at i (notes_of state tracks takes)).take ≡ true) {x = suc u + i} {y = u + suc i} (omega arith)
    (note_goes now rolling before state (suc u) i tracks takes (omega arith) (omega arith) parts.1)

-- ---- all of them

HasNotes : Session → Entry → Type 0
HasNotes s e = length e.notes ≡ length s.tracks.items

all_turned : {X : Type 0} (P : X → Type 0) (xs : List X) → All P xs → All P (reverse xs)
all_turned P [] all = all
all_turned P (x ∷ xs) all = subst (All P) (sym (reverse-append (x ∷ []) xs)) (All-push P (reverse xs) x (all_turned P xs (All-tail P x xs all)) (All-head P x xs all))

all_notes : (s : Session) (edits : List Edit) (r : ℕ) (tracks : List (List Kind)) (entries : List Entry) → AreMade s edits r tracks entries → All (HasNotes s) entries
unfolding HasNotes
all_notes s edits r tracks [] made = All-nil (HasNotes s)
all_notes s edits r tracks (e ∷ before) made = let x : Entry = entry_of s edits before made.by made.takes made.entered in All-cons (HasNotes s) e before
    (ap (λ k. length k.notes) made.is ∙ notes_long x.state made.by made.takes (made.one_each ∙ sym made.many) ∙ made.many)
    (all_notes s edits made.entered made.by before made.earlier)

all_counted : (s : Session) (edits : List Edit) (r t : ℕ) (tracks : List (List Kind)) (entries : List Entry) → t < length s.tracks.items → AreMade s edits r tracks entries →
    are_counted t entries ≡ true
all_counted s edits r t tracks [] lt made = refl
all_counted s edits r t tracks (e ∷ before) lt made = let x : Entry = entry_of s edits before made.by made.takes made.entered in
    and_from (goes_on (next_take t before) (note_of t e).take) (are_counted t before)
    (ap (λ k. goes_on (next_take t before) (note_of t k).take) made.is
    ∙ subst (λ k. goes_on (next_take k before) (note_at t (notes_of x.state made.by made.takes)).take ≡ true) {x = 0 + t} {y = t} (omega arith)
    (note_goes (edition s edits made.entered) (is_rolling e.state) before x.state 0 t made.by made.takes (omega (arith, lt, made.many)) (made.one_each ∙ sym made.many) made.fit))
    (all_counted s edits made.entered t made.by before lt made.earlier)

-- takes and their blocks are counted with no gap
pub made_counted : (s : Session) (edits : List Edit) (r : ℕ) (tracks : List (List Kind)) (entries : List Entry) → AreMade s edits r tracks entries → IsCounted s (reverse entries)
unfolding HasNotes
made_counted s edits r tracks entries made = record {
  notes = all_turned (HasNotes s) entries (all_notes s edits r tracks entries made);
  takes = λ t lt. ap (are_counted t) (reverse-reverse entries) ∙ all_counted s edits r t tracks entries lt made;
}
