-- Along a lawful journal, the newest entry has the newest edition and the newest settled number; so none rolled in a later generation.
use Rattle.std.proofs.Common.{◌≡◌, ℕ, suc, ◌<◌, ◌≤◌, List, [], ◌∷◌, length, refl, ap, le_trans, arith, ◌∙◌}
use Rattle.std.specs.Prelude.{Bool, true, false, ◌&&◌, nat_eq, nat_le, if◌then◌else◌}
use Rattle.std.specs.List.{list_all}
use Rattle.std.proofs.lemmas.Bool.{and_parts, and_from, leb-true, le-leb, eqb-true}
use Rattle.std.proofs.lemmas.Bool.Decides.{nat_tests}
use Rattle.session_model.specs.declared.session.Session.{Session}
use Rattle.session_model.specs.declared.edit.Edit.{Edit}
use Rattle.engine_model.specs.Editions.{edition}
use Rattle.engine_model.specs.Edits.{generation, starts}
use Rattle.engine_model.specs.Journal.{Entry, State, Stopped, Seeking, Rolling, is_rolling, is_rolling_in, rolled}
use Rattle.engine_model.specs.Fits.{fits_notes, fits_state, is_lawful_after, is_lawful_newest, is_no_older}
use Rattle.engine_laws.proofs.LawfulLemmas.{fits_parts, lawful_parts}
use Rattle.engine_laws.proofs.NumberLemmas.{count_rises}
use Rattle.journal_judge.specs.Numbers.{newest_edition, newest_settled}

-- the state and the notes of a lawful entry
pub record FitsIn (s : Session) (edits : List Edit) (before : List Entry) (e : Entry) : Type 0 where
  pub state : fits_state (edition s edits e.edition).transport.rolling (length s.tracks.items) (generation edits e.edition) (rolled (generation edits e.edition) before) e.state ≡ true
  pub many : length e.notes ≡ length s.tracks.items
  pub notes : fits_notes (edition s edits e.edition) (is_rolling e.state) (rolled (generation edits e.edition) before) before 0 e.notes ≡ true

pub fits_in : (s : Session) (edits : List Edit) (before : List Entry) (e : Entry) → is_lawful_after s edits before e ≡ true → FitsIn s edits before e
fits_in s edits before e lawful = let in_it = (fits_parts s edits before e (lawful_parts s edits before e lawful).fit).2 in
    let now = edition s edits e.edition in let g = generation edits e.edition in
    let a = fits_state now.transport.rolling (length s.tracks.items) g (rolled g before) e.state in let b = nat_eq (length e.notes) (length s.tracks.items) in
    let c = fits_notes now (is_rolling e.state) (rolled g before) before 0 e.notes in
    let two = and_parts (a && b) c in_it in let one = and_parts a b two.0 in
    record { state = one.0; many = eqb-true (length e.notes) (length s.tracks.items) one.1; notes = two.1 }

newest_low : (before : List Entry) (e : Entry) → list_all (λ old. is_no_older old e) before ≡ true → (newest_edition before ≤ e.edition) × (newest_settled before ≤ e.settled)
newest_low [] e all = (omega arith, omega arith)
newest_low (old ∷ before) e all = let here = and_parts (nat_le old.edition e.edition) (nat_le old.settled e.settled) (and_parts (is_no_older old e) (list_all (λ o. is_no_older o e) before) all).0 in
    (leb-true old.edition e.edition here.0, leb-true old.settled e.settled here.1)

pub lawful_low : (s : Session) (edits : List Edit) (before : List Entry) (e : Entry) → is_lawful_after s edits before e ≡ true → (newest_edition before ≤ e.edition) × (newest_settled before ≤ e.settled)
lawful_low s edits before e lawful = newest_low before e (lawful_parts s edits before e lawful).no_older

-- no entry is newer than one that the newest entry isn't newer than
pub none_newer : (s : Session) (edits : List Edit) (before : List Entry) (e : Entry) → is_lawful_newest s edits before ≡ true →
    newest_edition before ≤ e.edition → newest_settled before ≤ e.settled → list_all (λ old. is_no_older old e) before ≡ true
none_newer s edits [] e lawful one two = refl
none_newer s edits (old ∷ before) e lawful one two = let step = and_parts (is_lawful_after s edits before old) (is_lawful_newest s edits before) lawful in
    let low = lawful_low s edits before old step.0 in
    and_from (is_no_older old e) (list_all (λ o. is_no_older o e) before)
    (and_from (nat_le old.edition e.edition) (nat_le old.settled e.settled) (le-leb old.edition e.edition one) (le-leb old.settled e.settled two))
    (none_newer s edits before e step.1 (le_trans low.0 one) (le_trans low.1 two))

-- an entry rolls in the generation of its own edition
pub rolls_in_its : (rolls : Bool) (tracks h n g : ℕ) (state : State) → fits_state rolls tracks h n state ≡ true → h < g → is_rolling_in g state ≡ false
rolls_in_its rolls tracks h n g Stopped fit lt = refl
rolls_in_its rolls tracks h n g (Seeking t tail) fit lt = refl
rolls_in_its rolls tracks h n g (Rolling i q) fit lt =
    let same : i ≡ h = eqb-true i h (and_parts rolls (nat_eq i h) (and_parts (rolls && nat_eq i h) (nat_eq q n) fit).0).1 in grind (arith, nat_tests, same, lt)

-- none rolled in a generation that comes after their editions'
pub none_rolled : (s : Session) (edits : List Edit) (k g : ℕ) (before : List Entry) → is_lawful_newest s edits before ≡ true → newest_edition before ≤ k → generation edits k < g → rolled g before ≡ 0
none_rolled s edits k g [] lawful on lt = refl
none_rolled s edits k g (e ∷ before) lawful on lt = let step = and_parts (is_lawful_after s edits before e) (is_lawful_newest s edits before) lawful in
    let low : generation edits e.edition ≤ generation edits k = count_rises starts edits e.edition k on in
    let own : generation edits e.edition < g = omega (arith, low, lt) in
    ap (λ b. if b then suc (rolled g before) else rolled g before)
    (rolls_in_its (edition s edits e.edition).transport.rolling (length s.tracks.items) (generation edits e.edition) (rolled (generation edits e.edition) before) g e.state (fits_in s edits before e step.0).state own)
    ∙ none_rolled s edits k g before step.1 (le_trans (lawful_low s edits before e step.0).0 on) lt
