-- The edits that lines make, and what is asked of patience.
use Rattle.std.proofs.Common.{◌≡◌, inl, inr, ℕ, zero, suc, ◌-◌, List, [], ◌∷◌, ◌++◌, length, refl, sym, ap, ◌∙◌}
use Rattle.std.specs.Prelude.{Bool, true, false, ◌==◌, if◌then◌else◌}
use Rattle.std.proofs.lemmas.Bool.{cases_eq, eq-eqb, ne_eqb, true≢false}
use Rattle.session_model.specs.declared.edit.Edit.{Edit}
use Rattle.session_model.specs.declared.session.Session.{Session}
use Rattle.engine_model.specs.Edits.{is_quit}
use Rattle.engine_model.specs.Lines.{Line, Nothing, Says, Unread, accepted_from, commands_of}
use Rattle.engine_model.specs.Plain.{Do, Wait, Sync, Run, accepts, needs_cycle, plain_from, with_cycles, with_edit}
use Rattle.engine_model.specs.Truth.{is_within}
use Rattle.engine_model.specs.Waited.{are_waited_from}
use Rattle.journal_laws.specs.LineLaws.{AcceptedByLines, PatienceOfOne, PatienceHasALook}

-- ---- edits

edit_step : (session : Session) (cycles : ℕ) (run : Run) (e : Edit) (ls : List Line) (taken quits : Bool) →
    accepted_from session run.edits ls ≡ (plain_from session cycles run (commands_of ls)).edits →
    accepted_from session (run.edits ++ e ∷ []) ls ≡ (plain_from session cycles (with_edit run e) (commands_of ls)).edits →
    (if taken then (if quits then run.edits ++ e ∷ [] else accepted_from session (run.edits ++ e ∷ []) ls) else accepted_from session run.edits ls)
    ≡ (if taken then (if quits then with_edit run e else plain_from session cycles (with_edit run e) (commands_of ls)) else plain_from session cycles run (commands_of ls)).edits
edit_step session cycles run e ls false quits same on = same
edit_step session cycles run e ls true true same on = refl
edit_step session cycles run e ls true false same on = on

sync_step : (session : Session) (cycles : ℕ) (run : Run) (ls : List Line) (b : Bool) →
    accepted_from session run.edits ls ≡ (plain_from session cycles run (commands_of ls)).edits →
    accepted_from session run.edits ls ≡ (plain_from session cycles (with_cycles session cycles 1 run) (commands_of ls)).edits →
    accepted_from session run.edits ls ≡ (plain_from session cycles (if b then with_cycles session cycles 1 run else run) (commands_of ls)).edits
sync_step session cycles run ls false same on = same
sync_step session cycles run ls true same on = on

accepted_by : (session : Session) (cycles : ℕ) (ls : List Line) (run : Run) → accepted_from session run.edits ls ≡ (plain_from session cycles run (commands_of ls)).edits
accepted_by session cycles [] run = refl
accepted_by session cycles (Nothing ∷ ls) run = accepted_by session cycles ls run
accepted_by session cycles (Unread why ∷ ls) run = accepted_by session cycles ls run
accepted_by session cycles (Says (Wait n) ∷ ls) run = accepted_by session cycles ls (with_cycles session cycles n run)
accepted_by session cycles (Says Sync ∷ ls) run = sync_step session cycles run ls (needs_cycle (length run.edits) run.entries) (accepted_by session cycles ls run)
    (accepted_by session cycles ls (with_cycles session cycles 1 run))
accepted_by session cycles (Says (Do e) ∷ ls) run = edit_step session cycles run e ls (accepts session run e) (is_quit e) (accepted_by session cycles ls run)
    (accepted_by session cycles ls (with_edit run e))

pub accepted_by_lines : AcceptedByLines
accepted_by_lines session cycles lines = accepted_by session cycles lines (record { edits = []; entries = [] })

-- ---- patience

same_test : (a b : ℕ) → (a == b) ≡ (b == a)
same_test a b = elim (cases_eq a b) [ inl same ↦ eq-eqb a b same ∙ sym (eq-eqb b a (sym same)) | inr other ↦ ne_eqb a b other ∙ sym (ne_eqb b a (λ e. other (sym e))) ]

pub patience_of_one : PatienceOfOne
patience_of_one [] tails = refl
patience_of_one (n ∷ ns) [] = refl
patience_of_one (n ∷ ns) (tail ∷ tails) = ap (λ b. if b then are_waited_from 1 0 ns tails else are_waited_from 1 0 (n ∷ ns) tails) (same_test tail n)
    ∙ by (n == tail) (patience_of_one ns tails) (patience_of_one (n ∷ ns) tails)
  where
    by : (b : Bool) → are_waited_from 1 0 ns tails ≡ is_within ns tails → are_waited_from 1 0 (n ∷ ns) tails ≡ is_within (n ∷ ns) tails →
        (if b then are_waited_from 1 0 ns tails else are_waited_from 1 0 (n ∷ ns) tails) ≡ (if b then is_within ns tails else is_within (n ∷ ns) tails)
    by true found on = found
    by false found on = on

-- a list that is within another one is within a longer one, where lists within it are so without their first number,
longer_by : (tail : ℕ) (ns tails : List ℕ) → ((m : ℕ) (ms : List ℕ) → is_within (m ∷ ms) tails ≡ true → is_within ms tails ≡ true) → is_within ns tails ≡ true → is_within ns (tail ∷ tails) ≡ true
longer_by tail [] tails less h = refl
longer_by tail (n ∷ ns) tails less h = by (n == tail)
  where
    by : (b : Bool) → (if b then is_within ns tails else is_within (n ∷ ns) tails) ≡ true
    by true = less n ns h
    by false = h

-- which they are
within_less : (n : ℕ) (ns tails : List ℕ) → is_within (n ∷ ns) tails ≡ true → is_within ns tails ≡ true
within_less n ns [] h = absurd (true≢false (sym h))
within_less n ns (y ∷ tails) h = by (n == y) h (longer_by y ns tails (λ m ms. within_less m ms tails)) (within_less n ns tails)
  where
    by : (b : Bool) → (if b then is_within ns tails else is_within (n ∷ ns) tails) ≡ true → (is_within ns tails ≡ true → is_within ns (y ∷ tails) ≡ true) →
        (is_within (n ∷ ns) tails ≡ true → is_within ns tails ≡ true) → is_within ns (y ∷ tails) ≡ true
    by true e longer less = longer e
    by false e longer less = longer (less e)

within_longer : (tail : ℕ) (ns tails : List ℕ) → is_within ns tails ≡ true → is_within ns (tail ∷ tails) ≡ true
within_longer tail ns tails h = longer_by tail ns tails (λ m ms. within_less m ms tails) h

waited_within : (patience left : ℕ) (ns tails : List ℕ) → are_waited_from patience left ns tails ≡ true → is_within ns tails ≡ true
waited_within patience left [] tails h = refl
waited_within patience left (n ∷ ns) [] h = absurd (true≢false (sym h))
waited_within patience (suc left) (n ∷ ns) (tail ∷ tails) h = within_longer tail (n ∷ ns) tails (waited_within patience left (n ∷ ns) tails h)
waited_within patience zero (n ∷ ns) (tail ∷ tails) h = by (n == tail)
    (sym (ap (λ b. if b then are_waited_from patience (patience - 1) ns tails else are_waited_from patience zero (n ∷ ns) tails) (same_test tail n)) ∙ h)
    (waited_within patience (patience - 1) ns tails) (waited_within patience zero (n ∷ ns) tails)
  where
    by : (b : Bool) → (if b then are_waited_from patience (patience - 1) ns tails else are_waited_from patience zero (n ∷ ns) tails) ≡ true →
        (are_waited_from patience (patience - 1) ns tails ≡ true → is_within ns tails ≡ true) → (are_waited_from patience zero (n ∷ ns) tails ≡ true → is_within (n ∷ ns) tails ≡ true) →
        (if b then is_within ns tails else is_within (n ∷ ns) tails) ≡ true
    by true e found on = found e
    by false e found on = on e

pub patience_has_a_look : PatienceHasALook
patience_has_a_look patience looked tails h = waited_within patience (patience - 1) looked tails h
