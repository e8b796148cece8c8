-- Lists turned round, and the parts of a lawful journal.
use Rattle.std.proofs.Common.{◌≡◌, List, [], ◌∷◌, ◌++◌, length, sym, ap, subst, ◌∙◌, append_assoc}
use Rattle.std.specs.Prelude.{Bool, true, ◌&&◌, nat_eq, reverse, All}
use Rattle.std.specs.List.{list_all}
use Rattle.std.proofs.lemmas.Bool.{and_parts, eqb-true}
use Rattle.std.proofs.lemmas.List.{reverse-append}
use Rattle.std.proofs.lemmas.List.Elements.{All-head, All-tail, All-push}
use Rattle.session_model.specs.declared.edit.Edit.{Edit}
use Rattle.session_model.specs.declared.session.Session.{Session}
use Rattle.engine_model.specs.Editions.{edition}
use Rattle.engine_model.specs.Edits.{generation}
use Rattle.engine_model.specs.Journal.{Entry, is_rolling, rolled}
use Rattle.engine_model.specs.Fits.{fits_notes, fits_state, is_lawful_after}
use Rattle.engine_laws.proofs.LawfulLemmas.{fits_parts, lawful_parts}

pub turned : {X : Type 0} (x : X) (xs : List X) → reverse (x ∷ xs) ≡ reverse xs ++ x ∷ []
turned x xs = reverse-append (x ∷ []) xs

pub All-reverse : {X : Type 0} (P : X → Type 0) (xs : List X) → All P xs → All P (reverse xs)
All-reverse P [] all = all
All-reverse P (x ∷ xs) all = subst (λ l. All P l) (sym (turned x xs)) (All-push P (reverse xs) x (All-reverse P xs (All-tail P x xs all)) (All-head P x xs all))

-- a journal round an entry, turned round
pub turned_round : {X : Type 0} (before later : List X) (x : X) → reverse (before ++ x ∷ later) ≡ reverse later ++ x ∷ reverse before
turned_round before later x = reverse-append before (x ∷ later) ∙ ap (λ l. l ++ reverse before) (turned x later) ∙ append_assoc (reverse later) (x ∷ []) (reverse before)

-- what holds of each of a list by a test
pub holds_each : {X : Type 0} (p : X → Bool) (xs ys : List X) (x : X) → list_all p (xs ++ x ∷ ys) ≡ true → p x ≡ true
holds_each p [] ys x all = (and_parts (p x) (list_all p ys) all).0
holds_each p (y ∷ xs) ys x all = holds_each p xs ys x (and_parts (p y) (list_all p (xs ++ x ∷ ys)) all).1

-- the state and the notes of an entry fit
pub record FitsIn (session : Session) (edits : List Edit) (before : List Entry) (e : Entry) : Type 0 where
  pub state : fits_state (edition session edits e.edition).transport.rolling (length session.tracks.items) (generation edits e.edition) (rolled (generation edits e.edition) before) e.state ≡ true
  pub many : length e.notes ≡ length session.tracks.items
  pub notes : fits_notes (edition session edits e.edition) (is_rolling e.state) (rolled (generation edits e.edition) before) before 0 e.notes ≡ true

pub fits_in_parts : (session : Session) (edits : List Edit) (before : List Entry) (e : Entry) → is_lawful_after session edits before e ≡ true → FitsIn session edits before e
fits_in_parts session edits before e lawful = let in_it = (fits_parts session edits before e (lawful_parts session edits before e lawful).fit).2 in
    let now = edition session edits e.edition in let g = generation edits e.edition in
    let a = fits_state now.transport.rolling (length session.tracks.items) g (rolled g before) e.state in let b = nat_eq (length e.notes) (length session.tracks.items) in
    let c = fits_notes now (is_rolling e.state) (rolled g before) before 0 e.notes in
    let two = and_parts (a && b) c in_it in let one = and_parts a b two.0 in
    record { state = one.0; many = eqb-true (length e.notes) (length session.tracks.items) one.1; notes = two.1 }
