-- After an entry that has an edition settled nothing older is played.
use Rattle.std.proofs.Common.{◌≡◌, ℕ, ◌+◌, ◌≤◌, List, [], ◌∷◌, ◌++◌, length, subst, le_trans, arith, ap, ◌∙◌}
use Rattle.std.specs.Prelude.{true, nat_le, nat_eq, ◌&&◌, reverse, All}
use Rattle.std.proofs.lemmas.Bool.{and_parts, leb-true}
use Rattle.std.proofs.lemmas.List.{reverse-reverse}
use Rattle.std.proofs.lemmas.List.Elements.{All-cons, All-nil}
use Rattle.session_model.specs.declared.edit.Edit.{Edit}
use Rattle.session_model.specs.declared.session.Session.{Session}
use Rattle.engine_model.specs.Edits.{playlist_edition, starts, touches}
use Rattle.engine_model.specs.Journal.{Entry, Heard, note_at, note_of}
use Rattle.engine_model.specs.Fits.{is_heard_well, is_lawful_after, is_lawful_newest, is_no_older}
use Rattle.engine_laws.proofs.LawfulLemmas.{lawful_parts, note_well}
use Rattle.engine_laws.proofs.NumberLemmas.{count_rises, last_rises}
use Rattle.journal_laws.specs.Acknowledged.{IsNoOlderThan, AfterAnAcknowledgement}
use Rattle.journal_laws.proofs.JournalLemmas.{All-reverse, holds_each, turned_round}

-- an entry that has edition k settled plays nothing older
settled_is_no_older : (session : Session) (edits : List Edit) (before : List Entry) (e : Entry) (k : ℕ) → is_lawful_after session edits before e ≡ true → k ≤ e.settled →
    IsNoOlderThan session edits k e
settled_is_no_older session edits before e k lawful le = let parts = lawful_parts session edits before e lawful in let low : k ≤ e.edition = le_trans le parts.settled in record {
  edition = low;
  generation = count_rises starts edits k e.edition low;
  heard = λ t p is. by t p (subst (λ u. is_heard_well session edits e.settled u (note_at t e.notes).play ≡ true) {x = 0 + t} {y = t} (omega arith)
      (note_well session edits e.settled 0 t before e.notes parts.heard)) is;
}
  where
    by : (t p : ℕ) → is_heard_well session edits e.settled t (note_of t e).play ≡ true → (note_of t e).play ≡ Heard p → playlist_edition session edits t k ≤ p
    by t p well is = le_trans (last_rises (touches session t) edits k e.settled le) (leb-true (playlist_edition session edits t e.settled) p
        (and_parts (nat_eq p (playlist_edition session edits t p) && nat_le p (length edits)) (nat_le (playlist_edition session edits t e.settled) p)
        (subst (λ play. is_heard_well session edits e.settled t play ≡ true) is well)).1)

after_newest : (session : Session) (edits : List Edit) (newer older : List Entry) (e : Entry) (k : ℕ) → is_lawful_newest session edits (newer ++ e ∷ older) ≡ true → k ≤ e.settled →
    All (IsNoOlderThan session edits k) (newer ++ e ∷ [])
after_newest session edits [] older e k lawful le = All-cons (IsNoOlderThan session edits k) e []
    (settled_is_no_older session edits older e k (and_parts (is_lawful_after session edits older e) (is_lawful_newest session edits older) lawful).0 le) (All-nil (IsNoOlderThan session edits k))
after_newest session edits (x ∷ newer) older e k lawful le =
    let step = and_parts (is_lawful_after session edits (newer ++ e ∷ older) x) (is_lawful_newest session edits (newer ++ e ∷ older)) lawful in
    let fall = and_parts (nat_le e.edition x.edition) (nat_le e.settled x.settled)
    (holds_each (λ old. is_no_older old x) newer older e (lawful_parts session edits (newer ++ e ∷ older) x step.0).no_older) in
    All-cons (IsNoOlderThan session edits k) x (newer ++ e ∷ [])
    (settled_is_no_older session edits (newer ++ e ∷ older) x k step.0 (le_trans le (leb-true e.settled x.settled fall.1)))
    (after_newest session edits newer older e k step.1 le)

pub after_an_acknowledgement : AfterAnAcknowledgement
after_an_acknowledgement session edits before later e k lawful le = subst (λ l. All (IsNoOlderThan session edits k) l)
    (turned_round (reverse later) [] e ∙ ap (λ l. e ∷ l) (reverse-reverse later))
    (All-reverse (IsNoOlderThan session edits k) (reverse later ++ e ∷ []) (after_newest session edits (reverse later) (reverse before) e k
    (subst (λ l. is_lawful_newest session edits l ≡ true) (turned_round before later e) lawful) le))
