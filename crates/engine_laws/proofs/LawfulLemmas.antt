-- A lawful journal stays lawful when the list of edits grows, and what its entries heard is no newer than the newest edition.
use Rattle.std.proofs.Common.{◌≡◌, ℕ, zero, suc, ◌+◌, ◌≤◌, List, [], ◌∷◌, ◌++◌, length, refl, sym, ap, subst, le_trans, arith, ◌∙◌, length-append}
use Rattle.std.specs.Prelude.{true, ◌&&◌, not, nat_le, nat_eq}
use Rattle.std.specs.List.{list_all}
use Rattle.std.proofs.lemmas.Bool.{and_parts, and_from, leb-true, le-leb, eqb-true, eq-eqb}
use Rattle.session_model.specs.declared.edit.Edit.{Edit}
use Rattle.session_model.specs.declared.session.Session.{Session}
use Rattle.engine_model.specs.Editions.{edition}
use Rattle.engine_model.specs.Edits.{generation, has_quit, playlist_edition, starts, touches}
use Rattle.engine_model.specs.Fits.{are_heard_well, fits, fits_in, is_heard_after, is_heard_well, is_lawful_after, is_lawful_newest, is_no_older}
use Rattle.engine_model.specs.Journal.{Entry, Heard, Note, Play, Short, Silent, note_at, note_of}
use Rattle.engine_laws.proofs.EditionLemmas.{edition_stays, quit_stays}
use Rattle.engine_laws.proofs.NumberLemmas.{count_stays, last_rises, last_stays}
use Rattle.engine_laws.proofs.SendLemmas.{four}

-- ---- the parts of a lawful entry

pub record Parts (session : Session) (edits : List Edit) (before : List Entry) (e : Entry) : Type 0 where
  pub fit : fits session edits before e ≡ true
  pub no_older : list_all (λ old. is_no_older old e) before ≡ true
  pub settled : e.settled ≤ e.edition
  pub heard : are_heard_well session edits e.settled before 0 e.notes ≡ true

pub lawful_parts : (session : Session) (edits : List Edit) (before : List Entry) (e : Entry) → is_lawful_after session edits before e ≡ true → Parts session edits before e
lawful_parts session edits before e h = let three = and_parts (fits session edits before e && list_all (λ old. is_no_older old e) before && nat_le e.settled e.edition)
    (are_heard_well session edits e.settled before 0 e.notes) h in
    let two = and_parts (fits session edits before e && list_all (λ old. is_no_older old e) before) (nat_le e.settled e.edition) three.0 in
    let one = and_parts (fits session edits before e) (list_all (λ old. is_no_older old e) before) two.0 in
    record { fit = one.0; no_older = one.1; settled = leb-true e.settled e.edition two.1; heard = three.1 }

pub lawful_from : (session : Session) (edits : List Edit) (before : List Entry) (e : Entry) → Parts session edits before e → is_lawful_after session edits before e ≡ true
lawful_from session edits before e p = four (fits session edits before e) (list_all (λ old. is_no_older old e) before) (nat_le e.settled e.edition)
    (are_heard_well session edits e.settled before 0 e.notes) p.fit p.no_older (le-leb e.settled e.edition p.settled) p.heard

pub fits_parts : (session : Session) (edits : List Edit) (before : List Entry) (e : Entry) → fits session edits before e ≡ true →
    (e.edition ≤ length edits) × (not (has_quit edits e.edition) ≡ true) × (fits_in session (edition session edits e.edition) (generation edits e.edition) before e ≡ true)
fits_parts session edits before e h = let two = and_parts (nat_le e.edition (length edits) && not (has_quit edits e.edition))
    (fits_in session (edition session edits e.edition) (generation edits e.edition) before e) h in
    let one = and_parts (nat_le e.edition (length edits)) (not (has_quit edits e.edition)) two.0 in
    (leb-true e.edition (length edits) one.0, one.1, two.1)

pub fits_from : (session : Session) (edits : List Edit) (before : List Entry) (e : Entry) → e.edition ≤ length edits → not (has_quit edits e.edition) ≡ true →
    fits_in session (edition session edits e.edition) (generation edits e.edition) before e ≡ true → fits session edits before e ≡ true
fits_from session edits before e le open_still fit = and_from (nat_le e.edition (length edits) && not (has_quit edits e.edition))
    (fits_in session (edition session edits e.edition) (generation edits e.edition) before e)
    (and_from (nat_le e.edition (length edits)) (not (has_quit edits e.edition)) (le-leb e.edition (length edits) le) open_still) fit

-- ---- a list that grows

no_shorter : (edits more : List Edit) → length edits ≤ length (edits ++ more)
no_shorter edits more = grind (arith, length-append edits more)

fits_stays : (session : Session) (edits more : List Edit) (before : List Entry) (e : Entry) → fits session edits before e ≡ true → fits session (edits ++ more) before e ≡ true
fits_stays session edits more before e h = let parts = fits_parts session edits before e h in
    fits_from session (edits ++ more) before e (le_trans parts.0 (no_shorter edits more))
    (ap (λ q. not q) (quit_stays edits more e.edition parts.0) ∙ parts.1)
    (ap (λ now. fits_in session now (generation (edits ++ more) e.edition) before e) (edition_stays session edits more e.edition parts.0)
    ∙ ap (λ g. fits_in session (edition session edits e.edition) g before e) (count_stays starts edits more e.edition parts.0) ∙ parts.2)

-- the parts of what is heard well
pub heard_parts : (session : Session) (edits : List Edit) (settled t p : ℕ) → is_heard_well session edits settled t (Heard p) ≡ true →
    (p ≡ playlist_edition session edits t p) × (p ≤ length edits) × (playlist_edition session edits t settled ≤ p)
heard_parts session edits settled t p h = let two = and_parts (nat_eq p (playlist_edition session edits t p) && nat_le p (length edits)) (nat_le (playlist_edition session edits t settled) p) h in
    let one = and_parts (nat_eq p (playlist_edition session edits t p)) (nat_le p (length edits)) two.0 in
    (eqb-true p (playlist_edition session edits t p) one.0, leb-true p (length edits) one.1, leb-true (playlist_edition session edits t settled) p two.1)

pub heard_from : (session : Session) (edits : List Edit) (settled t p : ℕ) → p ≡ playlist_edition session edits t p → p ≤ length edits →
    playlist_edition session edits t settled ≤ p → is_heard_well session edits settled t (Heard p) ≡ true
heard_from session edits settled t p named le low = and_from (nat_eq p (playlist_edition session edits t p) && nat_le p (length edits)) (nat_le (playlist_edition session edits t settled) p)
    (and_from (nat_eq p (playlist_edition session edits t p)) (nat_le p (length edits)) (eq-eqb p (playlist_edition session edits t p) named) (le-leb p (length edits) le))
    (le-leb (playlist_edition session edits t settled) p low)

heard_stays : (session : Session) (edits more : List Edit) (settled t : ℕ) (play : Play) → settled ≤ length edits →
    is_heard_well session edits settled t play ≡ true → is_heard_well session (edits ++ more) settled t play ≡ true
heard_stays session edits more settled t (Heard p) le h = let parts = heard_parts session edits settled t p h in
    heard_from session (edits ++ more) settled t p
    (parts.0 ∙ sym (last_stays (touches session t) edits more p parts.1)) (le_trans parts.1 (no_shorter edits more))
    (subst (λ n. n ≤ p) (sym (last_stays (touches session t) edits more settled le)) parts.2)
heard_stays session edits more settled t Silent le h = refl
heard_stays session edits more settled t (Short tail) le h = refl

-- the parts of notes that are heard well
pub note_parts : (session : Session) (edits : List Edit) (settled t : ℕ) (before : List Entry) (note : Note) (notes : List Note) →
    are_heard_well session edits settled before t (note ∷ notes) ≡ true →
    (is_heard_well session edits settled t note.play ≡ true) × (list_all (λ old. is_heard_after (note_of t old).play note.play) before ≡ true)
    × (are_heard_well session edits settled before (suc t) notes ≡ true)
note_parts session edits settled t before note notes h = let two = and_parts (is_heard_well session edits settled t note.play && list_all (λ old. is_heard_after (note_of t old).play note.play) before)
    (are_heard_well session edits settled before (suc t) notes) h in
    let one = and_parts (is_heard_well session edits settled t note.play) (list_all (λ old. is_heard_after (note_of t old).play note.play) before) two.0 in
    (one.0, one.1, two.1)

pub note_from : (session : Session) (edits : List Edit) (settled t : ℕ) (before : List Entry) (note : Note) (notes : List Note) →
    is_heard_well session edits settled t note.play ≡ true → list_all (λ old. is_heard_after (note_of t old).play note.play) before ≡ true →
    are_heard_well session edits settled before (suc t) notes ≡ true → are_heard_well session edits settled before t (note ∷ notes) ≡ true
note_from session edits settled t before note notes well after rest = and_from
    (is_heard_well session edits settled t note.play && list_all (λ old. is_heard_after (note_of t old).play note.play) before)
    (are_heard_well session edits settled before (suc t) notes)
    (and_from (is_heard_well session edits settled t note.play) (list_all (λ old. is_heard_after (note_of t old).play note.play) before) well after) rest

notes_stay : (session : Session) (edits more : List Edit) (settled t : ℕ) (before : List Entry) (notes : List Note) → settled ≤ length edits →
    are_heard_well session edits settled before t notes ≡ true → are_heard_well session (edits ++ more) settled before t notes ≡ true
notes_stay session edits more settled t before [] le h = refl
notes_stay session edits more settled t before (note ∷ notes) le h = let parts = note_parts session edits settled t before note notes h in
    note_from session (edits ++ more) settled t before note notes (heard_stays session edits more settled t note.play le parts.0) parts.1
    (notes_stay session edits more settled (suc t) before notes le parts.2)

pub lawful_stays : (session : Session) (edits more : List Edit) (entries : List Entry) → is_lawful_newest session edits entries ≡ true → is_lawful_newest session (edits ++ more) entries ≡ true
lawful_stays session edits more [] h = refl
lawful_stays session edits more (e ∷ before) h = let step = and_parts (is_lawful_after session edits before e) (is_lawful_newest session edits before) h in
    let p = lawful_parts session edits before e step.0 in
    and_from (is_lawful_after session (edits ++ more) before e) (is_lawful_newest session (edits ++ more) before)
    (lawful_from session (edits ++ more) before e record {
      fit = fits_stays session edits more before e p.fit;
      no_older = p.no_older;
      settled = p.settled;
      heard = notes_stay session edits more e.settled 0 before e.notes (le_trans p.settled (fits_parts session edits before e p.fit).0) p.heard;
    })
    (lawful_stays session edits more before step.1)

-- ---- old entries beside the newest edition

-- what a note heard is no newer than the track's newest playlist edition
newest_of_all : (session : Session) (edits : List Edit) (settled t p : ℕ) → is_heard_well session edits settled t (Heard p) ≡ true → p ≤ playlist_edition session edits t (length edits)
newest_of_all session edits settled t p h = let parts = heard_parts session edits settled t p h in
    subst (λ n. n ≤ playlist_edition session edits t (length edits)) (sym parts.0) (last_rises (touches session t) edits p (length edits) parts.1)

pub note_well : (session : Session) (edits : List Edit) (settled t i : ℕ) (before : List Entry) (notes : List Note) →
    are_heard_well session edits settled before t notes ≡ true → is_heard_well session edits settled (t + i) (note_at i notes).play ≡ true
note_well session edits settled t i before [] h = refl
note_well session edits settled t zero before (note ∷ notes) h =
    subst (λ u. is_heard_well session edits settled u note.play ≡ true) {x = t} {y = t + 0} (omega arith) (note_parts session edits settled t before note notes h).0
note_well session edits settled t (suc i) before (note ∷ notes) h =
    subst (λ u. is_heard_well session edits settled u (note_at i notes).play ≡ true) {x = suc t + i} {y = t + suc i} (omega arith)
    (note_well session edits settled (suc t) i before notes (note_parts session edits settled t before note notes h).2)

after_that : (session : Session) (edits : List Edit) (settled t : ℕ) (play : Play) → is_heard_well session edits settled t play ≡ true →
    is_heard_after play (Heard (playlist_edition session edits t (length edits))) ≡ true
after_that session edits settled t (Heard p) h = le-leb p (playlist_edition session edits t (length edits)) (newest_of_all session edits settled t p h)
after_that session edits settled t Silent h = refl
after_that session edits settled t (Short tail) h = refl

pub newest_after_all : (session : Session) (edits : List Edit) (t : ℕ) (before : List Entry) → is_lawful_newest session edits before ≡ true →
    list_all (λ old. is_heard_after (note_of t old).play (Heard (playlist_edition session edits t (length edits)))) before ≡ true
newest_after_all session edits t [] h = refl
newest_after_all session edits t (e ∷ before) h = let step = and_parts (is_lawful_after session edits before e) (is_lawful_newest session edits before) h in
    let p = lawful_parts session edits before e step.0 in
    and_from (is_heard_after (note_of t e).play (Heard (playlist_edition session edits t (length edits))))
    (list_all (λ old. is_heard_after (note_of t old).play (Heard (playlist_edition session edits t (length edits)))) before)
    (after_that session edits e.settled t (note_of t e).play
    (subst (λ u. is_heard_well session edits e.settled u (note_at t e.notes).play ≡ true) {x = 0 + t} {y = t} (omega arith) (note_well session edits e.settled 0 t before e.notes p.heard)))
    (newest_after_all session edits t before step.1)

-- an entry that is settled in the newest edition is no older than any before it
pub none_is_newer : (session : Session) (edits : List Edit) (before : List Entry) (e : Entry) → e.edition ≡ length edits → e.settled ≡ length edits →
    is_lawful_newest session edits before ≡ true → list_all (λ old. is_no_older old e) before ≡ true
none_is_newer session edits [] e at settled h = refl
none_is_newer session edits (old ∷ before) e at settled h = let step = and_parts (is_lawful_after session edits before old) (is_lawful_newest session edits before) h in
    let p = lawful_parts session edits before old step.0 in let low = (fits_parts session edits before old p.fit).0 in
    and_from (is_no_older old e) (list_all (λ o. is_no_older o e) before)
    (and_from (nat_le old.edition e.edition) (nat_le old.settled e.settled)
    (le-leb old.edition e.edition (subst (λ n. old.edition ≤ n) (sym at) low)) (le-leb old.settled e.settled (subst (λ n. old.settled ≤ n) (sym settled) (le_trans p.settled low))))
    (none_is_newer session edits before e at settled step.1)
