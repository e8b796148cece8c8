-- Nothing goes back along a lawful journal.
use Rattle.std.proofs.Common.{◌≡◌, ℕ, zero, suc, ◌+◌, List, [], ◌∷◌, ◌++◌, length, ap, subst, arith, ◌∙◌, append_assoc}
use Rattle.std.specs.Prelude.{Bool, true, ◌&&◌, nat_eq, nat_le, reverse, All}
use Rattle.std.specs.List.{list_all}
use Rattle.std.proofs.lemmas.Bool.{and_parts, eqb-true, leb-true}
use Rattle.std.proofs.lemmas.List.{reverse-reverse}
use Rattle.std.proofs.lemmas.List.Elements.{All-cons, All-nil}
use Rattle.session_model.specs.declared.edit.Edit.{Edit}
use Rattle.session_model.specs.declared.session.Session.{Session}
use Rattle.engine_model.specs.Editions.{edition}
use Rattle.engine_model.specs.Edits.{generation}
use Rattle.engine_model.specs.Journal.{Silent, Heard, Note, Rolling, Entry, note_at, note_of, rolled}
use Rattle.engine_model.specs.Fits.{are_heard_well, fits_state, is_heard_after, is_lawful_after, is_lawful_newest, is_no_older}
use Rattle.engine_laws.proofs.LawfulLemmas.{Parts, lawful_parts, note_parts}
use Rattle.journal_laws.specs.NeverBack.{NothingGoesBack, EachPlaysItsGeneration}
use Rattle.journal_laws.proofs.JournalLemmas.{All-reverse, fits_in_parts, holds_each, turned_round}

-- an entry of a lawful journal is lawful after those before it
lawful_at : (session : Session) (edits : List Edit) (newer older : List Entry) (y : Entry) → is_lawful_newest session edits (newer ++ y ∷ older) ≡ true → is_lawful_after session edits older y ≡ true
lawful_at session edits [] older y lawful = (and_parts (is_lawful_after session edits older y) (is_lawful_newest session edits older) lawful).0
lawful_at session edits (z ∷ newer) older y lawful = lawful_at session edits newer older y
    (and_parts (is_lawful_after session edits (newer ++ y ∷ older) z) (is_lawful_newest session edits (newer ++ y ∷ older)) lawful).1

-- what a track heard comes after what it heard before
after_at : (session : Session) (edits : List Edit) (settled u i q : ℕ) (before : List Entry) (notes : List Note) → are_heard_well session edits settled before u notes ≡ true →
    (note_at i notes).play ≡ Heard q → list_all (λ old. is_heard_after (note_of (u + i) old).play (Heard q)) before ≡ true
after_at session edits settled u i q before [] well is = absurd (silent_is is)
  where
    silent_is : Silent ≡ Heard q → ⊥
    silent_is e = cc
after_at session edits settled u zero q before (note ∷ notes) well is = subst (λ t. list_all (λ old. is_heard_after (note_of t old).play (Heard q)) before ≡ true) {x = u} {y = u + 0} (omega arith)
    (subst (λ play. list_all (λ old. is_heard_after (note_of u old).play play) before ≡ true) is (note_parts session edits settled u before note notes well).1)
after_at session edits settled u (suc i) q before (note ∷ notes) well is = subst (λ t. list_all (λ old. is_heard_after (note_of t old).play (Heard q)) before ≡ true) {x = suc u + i} {y = u + suc i} (omega arith)
    (after_at session edits settled (suc u) i q before notes (note_parts session edits settled u before note notes well).2 is)

pub nothing_goes_back : NothingGoesBack
nothing_goes_back session edits before between later x y lawful = record {
  edition = leb-true x.edition y.edition fall.0;
  settled = leb-true x.settled y.settled fall.1;
  heard = λ t p q one other. leb-true p q (subst (λ play. is_heard_after play (Heard q) ≡ true) one
      (holds_each (λ old. is_heard_after (note_of t old).play (Heard q)) (reverse between) (reverse before) x
      (subst (λ k. list_all (λ old. is_heard_after (note_of k old).play (Heard q)) older ≡ true) {x = 0 + t} {y = t} (omega arith) (after_at session edits y.settled 0 t q older y.notes parts.heard other))));
}
  where
    older : List Entry
    older = reverse between ++ x ∷ reverse before

    turned_twice : reverse (before ++ x ∷ (between ++ y ∷ later)) ≡ reverse later ++ y ∷ older
    turned_twice = turned_round before (between ++ y ∷ later) x ∙ ap (λ l. l ++ x ∷ reverse before) (turned_round between later y) ∙ append_assoc (reverse later) (y ∷ reverse between) (x ∷ reverse before)

    parts : Parts session edits older y
    parts = lawful_parts session edits older y (lawful_at session edits (reverse later) older y (subst (λ l. is_lawful_newest session edits l ≡ true) turned_twice lawful))

    fall : (nat_le x.edition y.edition ≡ true) × (nat_le x.settled y.settled ≡ true)
    fall = and_parts (nat_le x.edition y.edition) (nat_le x.settled y.settled) (holds_each (λ old. is_no_older old y) (reverse between) (reverse before) x parts.no_older)

-- ---- the generation

PlaysIts : List Edit → Entry → Type 0
PlaysIts edits e = (g s : ℕ) → e.state ≡ Rolling g s → g ≡ generation edits e.edition

each_plays : (session : Session) (edits : List Edit) (entries : List Entry) → is_lawful_newest session edits entries ≡ true → All (PlaysIts edits) entries
unfolding PlaysIts
each_plays session edits [] lawful = All-nil (PlaysIts edits)
each_plays session edits (e ∷ before) lawful = let step = and_parts (is_lawful_after session edits before e) (is_lawful_newest session edits before) lawful in
    All-cons (PlaysIts edits) e before (λ g s is. of (edition session edits e.edition).transport.rolling (length session.tracks.items) (generation edits e.edition) (rolled (generation edits e.edition) before) g s
    (subst (λ state. fits_state (edition session edits e.edition).transport.rolling (length session.tracks.items) (generation edits e.edition) (rolled (generation edits e.edition) before) state ≡ true) is
    (fits_in_parts session edits before e step.0).state)) (each_plays session edits before step.1)
  where
    of : (rolls : Bool) (tracks h n g s : ℕ) → fits_state rolls tracks h n (Rolling g s) ≡ true → g ≡ h
    of rolls tracks h n g s fit = eqb-true g h (and_parts rolls (nat_eq g h) (and_parts (rolls && nat_eq g h) (nat_eq s n) fit).0).1

pub each_plays_its_generation : EachPlaysItsGeneration
unfolding PlaysIts
each_plays_its_generation session edits journal lawful = subst (λ l. All (PlaysIts edits) l) (reverse-reverse journal) (All-reverse (PlaysIts edits) (reverse journal) (each_plays session edits (reverse journal) lawful))
