-- On one thread an accepted edit is in the next cycle, and each cycle has all edits accepted so far.
use Rattle.std.proofs.Common.{◌≡◌, ℕ, zero, suc, ◌-◌, ◌≤◌, ◌<◌, List, [], ◌∷◌, ◌++◌, length, refl, sym, ap, subst, arith, ◌∙◌}
use Rattle.std.specs.Prelude.{Bool, true, false, min, if◌then◌else◌, reverse}
use Rattle.std.proofs.lemmas.Bool.{true≢false}
use Rattle.std.proofs.lemmas.List.{append-nil, reverse-append}
use Rattle.session_model.specs.declared.edit.Edit.{Edit}
use Rattle.session_model.specs.declared.session.Session.{Session}
use Rattle.engine_model.specs.Edits.{has_quit, is_quit}
use Rattle.engine_model.specs.Journal.{Entry}
use Rattle.engine_model.specs.Plain.{Command, Do, Wait, Sync, Run, accepts, needs_cycle, plain_cycles, plain_entry, plain_from, with_cycles, with_edit}
use Rattle.engine_laws.proofs.EditionLemmas.{one_longer}
use Rattle.engine_laws.proofs.PlainLemmas.{held_at_the_end}
use Rattle.journal_laws.specs.OneThread.{run_from, run_so_far, GoesOnIn, AnEditIsInTheNextCycle, HasNextIn, TheNextCycleHasAllEdits}
use Rattle.journal_laws.proofs.JournalLemmas.{All-reverse, turned_round}
use Rattle.journal_laws.proofs.OneThreadLemmas.{Further, no_further, further_on, cycles_further, from_further}

IsOpen : Run → Type 0
IsOpen run = has_quit run.edits (length run.edits) ≡ false

-- after a quit a run isn't open
quit_closes : (run : Run) (e : Edit) → is_quit e ≡ true → IsOpen (with_edit run e) → ⊥
unfolding IsOpen
quit_closes run e quits open_still = true≢false (sym (subst (λ n. has_quit (run.edits ++ e ∷ []) n ≡ true) (sym (one_longer run.edits e))
    (ap (λ b. if b then true else has_quit (run.edits ++ e ∷ []) (length run.edits)) (held_at_the_end is_quit run.edits e ∙ quits))) ∙ open_still)

step_splits : (session : Session) (cycles : ℕ) (run : Run) (e : Edit) (cs rest : List Command) (taken quits : Bool) → is_quit e ≡ quits →
    IsOpen (if taken then (if quits then with_edit run e else run_from session cycles (with_edit run e) cs) else run_from session cycles run cs) →
    (IsOpen (run_from session cycles run cs) → plain_from session cycles run (cs ++ rest) ≡ plain_from session cycles (run_from session cycles run cs) rest) →
    (IsOpen (run_from session cycles (with_edit run e) cs) → plain_from session cycles (with_edit run e) (cs ++ rest) ≡ plain_from session cycles
    (run_from session cycles (with_edit run e) cs) rest) →
    (if taken then (if quits then with_edit run e else plain_from session cycles (with_edit run e) (cs ++ rest)) else plain_from session cycles run (cs ++ rest))
    ≡ plain_from session cycles (if taken then (if quits then with_edit run e else run_from session cycles (with_edit run e) cs) else run_from session cycles run cs) rest
step_splits session cycles run e cs rest false quits is open_still same on = same open_still
step_splits session cycles run e cs rest true true is open_still same on = absurd (quit_closes run e is open_still)
step_splits session cycles run e cs rest true false is open_still same on = on open_still

-- a run of commands is that of the first of them, and then of the others
splits : (session : Session) (cycles : ℕ) (cs rest : List Command) (run : Run) → IsOpen (run_from session cycles run cs) →
    plain_from session cycles run (cs ++ rest) ≡ plain_from session cycles (run_from session cycles run cs) rest
splits session cycles [] rest run open_still = refl
splits session cycles (Do e ∷ cs) rest run open_still = step_splits session cycles run e cs rest (accepts session run e) (is_quit e) refl open_still
    (splits session cycles cs rest run) (splits session cycles cs rest (with_edit run e))
splits session cycles (Wait n ∷ cs) rest run open_still = splits session cycles cs rest (with_cycles session cycles n run) open_still
splits session cycles (Sync ∷ cs) rest run open_still = splits session cycles cs rest (if needs_cycle (length run.edits) run.entries then with_cycles session cycles 1 run else run) open_still

goes_on : (k : ℕ) (before after : List Entry) → Further k before after → GoesOnIn k before (reverse after)
goes_on k before after more = record {
  later = reverse more.new;
  on = ap reverse more.on ∙ reverse-append more.new before;
  edition = All-reverse (λ (e : Entry). k ≤ e.edition) more.new more.edition;
}

edit_goes_on : (session : Session) (cycles : ℕ) (run : Run) (e : Edit) (rest : List Command) (taken quits : Bool) → taken ≡ true →
    Further (suc (length run.edits)) run.entries (if taken then (if quits then with_edit run e else plain_from session cycles (with_edit run e) rest) else plain_from session cycles run rest).entries
edit_goes_on session cycles run e rest false quits not_taken = absurd (true≢false (sym not_taken))
edit_goes_on session cycles run e rest true true taken = no_further (suc (length run.edits)) run.entries
edit_goes_on session cycles run e rest true false taken = subst (λ k. Further k run.entries (plain_from session cycles (with_edit run e) rest).entries) (one_longer run.edits e)
    (from_further session cycles rest (with_edit run e))

pub an_edit_is_in_the_next_cycle : AnEditIsInTheNextCycle
unfolding IsOpen
an_edit_is_in_the_next_cycle session cycles first rest edit open_still ok = let run = run_so_far session cycles first in
    subst (λ (r : Run). GoesOnIn (suc (length run.edits)) run.entries (reverse r.entries)) (sym (splits session cycles first (Do edit ∷ rest) (record { edits = []; entries = [] }) open_still))
    (goes_on (suc (length run.edits)) run.entries (plain_from session cycles run (Do edit ∷ rest)).entries (edit_goes_on session cycles run edit rest (accepts session run edit) (is_quit edit) ok))

-- ---- the next entry

has_next : (session : Session) (edits : List Edit) (n : ℕ) (before after : List Entry) → 0 < n → Further (length edits) (plain_cycles session edits n before) after →
    HasNextIn (length edits) before (reverse after)
has_next session edits zero before after some more = absurd (omega arith)
has_next session edits (suc n) before after some more = let e = plain_entry session edits before in
    let whole = further_on (length edits) (e ∷ before) (plain_cycles session edits n (e ∷ before)) after (cycles_further session edits n (e ∷ before)) more in record {
      next = e;
      later = reverse whole.new;
      on = ap reverse whole.on ∙ turned_round whole.new before e;
      edition = refl;
    }

pub the_next_cycle_has_all_edits : TheNextCycleHasAllEdits
unfolding IsOpen
the_next_cycle_has_all_edits session cycles n first rest open_still room = let run = run_so_far session cycles first in let left : ℕ = cycles - length run.entries in (
  subst (λ (r : Run). HasNextIn (length run.edits) run.entries (reverse r.entries)) (sym (splits session cycles first (Wait (suc n) ∷ rest) (record { edits = []; entries = [] }) open_still))
      (has_next session run.edits (min (suc n) left) run.entries (plain_from session cycles run (Wait (suc n) ∷ rest)).entries (some (suc n) left (omega arith) (omega arith))
      (from_further session cycles rest (with_cycles session cycles (suc n) run))),
  subst (λ (r : Run). HasNextIn (length run.edits) run.entries (reverse r.entries))
      (sym (ap (plain_from session cycles (record { edits = []; entries = [] })) (sym (append-nil first)) ∙ splits session cycles first [] (record { edits = []; entries = [] }) open_still))
      (has_next session run.edits (min cycles left) run.entries (plain_cycles session run.edits (min cycles left) run.entries) (some cycles left (omega arith) (omega arith))
      (no_further (length run.edits) (plain_cycles session run.edits (min cycles left) run.entries))),
)
  where
    some : (a b : ℕ) → 0 < a → 0 < b → 0 < min a b
    some a b x y = grind (arith, x, y)
