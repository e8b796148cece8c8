-- The notes of an entry, one after the other.
use Rattle.std.proofs.Common.{◌≡◌, ℕ, zero, suc, ◌+◌, ◌<◌, ◌≤◌, inl, inr, List, [], ◌∷◌, length, map, drop, get_or, refl, sym, ap, subst, add-one, drop-cons, arith, ◌∙◌}
use Rattle.std.specs.Prelude.{◌-◌, Bool, true, false, ◌&&◌, Option, Some, set, slice_get}
use Rattle.std.specs.Option.{option_map, option_map_or}
use Rattle.std.proofs.lemmas.Bool.{cases_eq}
use Rattle.std.proofs.lemmas.List.{drop_all, get_or-set_other, get_or-set_same, length-set}
use Rattle.std.proofs.lemmas.Option.{slice_get-get_or}
use Rattle.engine_model.specs.Changes.{Change}
use Rattle.engine_model.specs.Journal.{note_at}
use Rattle.session_change.specs.declared.change.Change as code
use Rattle.session_change.specs.Change.{change_seen}
use Rattle.cycle_journal.specs.declared.note.Note.{Note}
use Rattle.cycle_journal.specs.JournalView.{seen_note}
use Rattle.journal_judge.specs.declared.tracks.TrackCount.{TrackCount}
use Rattle.journal_judge.specs.Counts.{no_count, note_after}
use Rattle.journal_judge.specs.Judged.{JudgeState, count_at}
use Rattle.journal_judge.specs.Deciding.{are_good_notes, is_good_note, is_of, names_change}

-- ---- whether they are good

module _ (changes : List Change) (j : JudgeState) (rolling : Bool) (notes : List Note) where
  abbrev pub left : ℕ → Bool
  left i = are_good_notes changes j rolling i (map seen_note (drop i notes))

  pub one_more : (i : ℕ) (note : Note) → i < length notes → note ≡ get_or notes i note → left i ≡ (is_good_note changes j rolling i (seen_note note) && left (suc i))
  one_more i note lt is = ap (λ l. are_good_notes changes j rolling i (map seen_note l)) (drop-cons notes i note lt)
      ∙ ap (λ x. is_good_note changes j rolling i (seen_note x) && left (suc i)) (sym is)

  false_and : (a b : Bool) → a ≡ false → (a && b) ≡ false
  false_and a b e = ap (λ x. x && b) e

  true_and : (a b : Bool) → a ≡ true → (a && b) ≡ b
  true_and a b e = ap (λ x. x && b) e

  pub goes_on : (i : ℕ) (note : Note) (all : Bool) → left i ≡ all → i < length notes → note ≡ get_or notes i note → is_good_note changes j rolling i (seen_note note) ≡ true → left (i + 1) ≡ all
  goes_on i note all so_far lt is good = ap left (add-one i) ∙ sym (one_more i note lt is ∙ true_and (is_good_note changes j rolling i (seen_note note)) (left (suc i)) good) ∙ so_far

  pub ends : (i : ℕ) (note : Note) (all : Bool) → left i ≡ all → i < length notes → note ≡ get_or notes i note → is_good_note changes j rolling i (seen_note note) ≡ false → false ≡ all
  ends i note all so_far lt is bad = sym (one_more i note lt is ∙ false_and (is_good_note changes j rolling i (seen_note note)) (left (suc i)) bad) ∙ so_far

  pub all_good : (i : ℕ) (all : Bool) → left i ≡ all → length notes ≤ i → true ≡ all
  all_good i all so_far past = sym (ap (λ l. are_good_notes changes j rolling i (map seen_note l)) (drop_all i notes past)) ∙ so_far

-- ---- taking them up

note_is : (notes : List Note) (i : ℕ) (note : Note) → i < length notes → note ≡ get_or notes i note → note_at i (map seen_note notes) ≡ seen_note note
note_is [] i note lt is = absurd (omega arith)
note_is (x ∷ notes) zero note lt is = ap seen_note (sym is)
note_is (x ∷ notes) (suc i) note lt is = note_is notes i note (omega (arith, lt)) is

pub record Noted (notes : List Note) (old : List TrackCount) (i : ℕ) (now : List TrackCount) : Type 0 where
  pub long : length now ≡ 32
  pub noted : (t : ℕ) → t < i → count_at now t ≡ note_after (count_at old t) (note_at t (map seen_note notes))
  pub others : (t : ℕ) → i ≤ t → count_at now t ≡ count_at old t

pub one_noted : (notes : List Note) (old now new : List TrackCount) (i : ℕ) (note : Note) (next : TrackCount) → Noted notes old i now → i < length notes → i < 32 → note ≡ get_or notes i note →
    next ≡ note_after (count_at now i) (seen_note note) → new ≡ set now i next → Noted notes old (i + 1) new
one_noted notes old now new i note next so_far lt small is next_is new_is = record {
  long = ap (λ l. length l) new_is ∙ length-set now i next ∙ so_far.long;
  noted = noted;
  others = λ t le. ap (λ l. count_at l t) new_is ∙ get_or-set_other now i t next no_count (λ e. absurd (omega (arith, le, e))) ∙ so_far.others t (omega (arith, le));
}
  where
    here : count_at new i ≡ note_after (count_at old i) (note_at i (map seen_note notes))
    here = ap (λ l. count_at l i) new_is ∙ get_or-set_same now i next no_count (subst (λ n. i < n) (sym so_far.long) small) ∙ next_is
        ∙ ap (λ c. note_after c (seen_note note)) (so_far.others i (omega arith)) ∙ ap (note_after (count_at old i)) (sym (note_is notes i note lt is))

    noted : (t : ℕ) → t < i + 1 → count_at new t ≡ note_after (count_at old t) (note_at t (map seen_note notes))
    noted t le = elim (cases_eq t i) [
      | inl same ↦ subst (λ u. count_at new u ≡ note_after (count_at old u) (note_at u (map seen_note notes))) (sym same) here
      | inr other ↦ ap (λ l. count_at l t) new_is ∙ get_or-set_other now i t next no_count (λ e. other e) ∙ so_far.noted t (omega (arith, le, other))
    ]

same_default : {X : Type 0} (xs : List X) (i : ℕ) (a b : X) → i < length xs → get_or xs i a ≡ get_or xs i b
same_default [] i a b lt = absurd (omega arith)
same_default (x ∷ xs) zero a b lt = refl
same_default (x ∷ xs) (suc i) a b lt = same_default xs i a b (omega (arith, lt))

pub one_noted_at : (notes : List Note) (old now : List TrackCount) (i : ℕ) (note : Note) (count next : TrackCount) → Noted notes old i now → i < length notes → i < 32 →
    next ≡ note_after (get_or now i count) (seen_note (get_or notes i note)) → Noted notes old (i + 1) (set now i next)
one_noted_at notes old now i note count next so_far lt small next_is =
    one_noted notes old now (set now i next) i (get_or notes i note) next so_far lt small (same_default notes i note (get_or notes i note) lt)
    (next_is ∙ ap (λ c. note_after c (seen_note (get_or notes i note))) (same_default now i count no_count (subst (λ n. i < n) (sym so_far.long) small))) refl

-- ---- the change of a number

seen_at : (cs : List code.Change) (k : ℕ) → slice_get (map change_seen cs) k ≡ option_map change_seen (slice_get cs k)
seen_at [] k = refl
seen_at (c ∷ cs) zero = refl
seen_at (c ∷ cs) (suc k) = seen_at cs k

pub looked_up : (cs : List code.Change) (k : ℕ) (change : code.Change) → k < length cs → change ≡ get_or cs k change → slice_get cs k ≡ Some change
looked_up cs k change lt is = slice_get-get_or cs k change lt ∙ ap (λ c. Some c) (sym is)

pub names_at : (cs : List code.Change) (changes : List Change) (t number : ℕ) (o : Option code.Change) → (number ≡ 0 → ⊥) → map change_seen cs ≡ changes → slice_get cs (number - 1) ≡ o →
    names_change changes t number ≡ option_map_or (is_of t) (option_map change_seen o) false
names_at cs changes t zero o some seen at = absurd (some refl)
names_at cs changes t (suc k) o some seen at = let place : k ≡ suc k - 1 = omega arith in
    ap (λ l. option_map_or (is_of t) (slice_get l k) false) (sym seen) ∙ ap (λ x. option_map_or (is_of t) x false) (seen_at cs k)
    ∙ ap (λ x. option_map_or (is_of t) (option_map change_seen x) false) (ap (slice_get cs) place ∙ at)
