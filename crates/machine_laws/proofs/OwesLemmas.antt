-- What a run on one thread still owes: the plain run goes on from what was done to its end, and so do its replies.
use Rattle.std.proofs.Common.{◌≡◌, inl, inr, ℕ, suc, ◌-◌, ◌<◌, ◌≤◌, List, [], ◌∷◌, ◌++◌, length, refl, sym, ap, subst, arith, ◌∙◌}
use Rattle.std.specs.Prelude.{Bool, true, false, nat_le, min, if◌then◌else◌, Option, Some, None, reverse}
use Rattle.std.proofs.lemmas.Bool.{or_cases, or_parts, leb-true, leb-false, lt-ltb, le-ltb, true≢false, false≢true}
use Rattle.std.proofs.lemmas.List.{append_assoc, reverse-append}
use Rattle.session_model.specs.declared.session.Session.{Session}
use Rattle.engine_model.specs.Edits.{has_quit}
use Rattle.engine_model.specs.Journal.{Entry}
use Rattle.engine_model.specs.Plain.{Run, plain_entry, plain_cycles, with_cycles, needs_cycle, plain_from}
use Rattle.engine_model.specs.Lines.{commands_of}
use Rattle.engine_model.specs.Replies.{Reply, Done, synced_by, with_sync, plain_replies_from}
use Rattle.machine_model.specs.Core.{Core}
use Rattle.machine_model.specs.Control.{Control, Awaited, Entries, SettledIn, is_over, is_played_out, answer_to, is_last_settled}

abbrev pub run_of : Core → Run
run_of c = record { edits = c.edits; entries = c.entries }

-- the run after one cycle more
abbrev pub next_run : Session → Run → Run
next_run session run = record { edits = run.edits; entries = plain_entry session run.edits run.entries ∷ run.entries }

-- the run at the end of what is waited for, and what is answered there
abbrev pub waited : Session → ℕ → Option Awaited → Run → Run
waited session cycles None run = run
waited session cycles (Some (Entries n)) run = with_cycles session cycles (n - length run.entries) run
waited session cycles (Some (SettledIn k)) run = with_sync session cycles run

abbrev pub answered : Session → ℕ → Option Awaited → Run → List Reply
answered session cycles None run = []
answered session cycles (Some (Entries n)) run = Done ∷ []
answered session cycles (Some (SettledIn k)) run = synced_by k (with_sync session cycles run).entries ∷ []

-- From this control and run on the plain run comes to `final`, and its replies are `all`.
pub record Owes (session : Session) (cycles : ℕ) (final : Run) (all : List Reply) (control : Control) (run : Run) : Type 0 where
  pub unquit : has_quit run.edits (length run.edits) ≡ false
  -- a sync is in the newest edition
  pub newest : (k : ℕ) → control.awaits ≡ Some (SettledIn k) → k ≡ length run.edits
  pub run_on : plain_from session cycles (waited session cycles control.awaits run) (commands_of control.lines) ≡ final
  pub replies : reverse control.replies ++ (answered session cycles control.awaits run ++ plain_replies_from session cycles (waited session cycles control.awaits run) control.lines) ≡ all

-- ---- no cycle more

pub no_cycles : (session : Session) (cycles n : ℕ) (run : Run) → min n (cycles - length run.entries) ≡ 0 → with_cycles session cycles n run ≡ run
no_cycles session cycles n run e = ap (λ k. record run { entries = plain_cycles session run.edits k run.entries }) e

-- what a played out run can't wait for
played_out : (cycles : ℕ) (c : Core) → has_quit c.edits c.playing ≡ false → is_played_out cycles c ≡ true → cycles ≤ length c.entries
played_out cycles c unended h = elim (or_cases (nat_le cycles (length c.entries)) (has_quit c.edits c.playing) h) [
  | inl le ↦ leb-true cycles (length c.entries) le
  | inr q ↦ absurd (true≢false (sym q ∙ unended))
]

pub all_played : (session : Session) (cycles n : ℕ) (c : Core) → has_quit c.edits c.playing ≡ false → is_played_out cycles c ≡ true → with_cycles session cycles n (run_of c) ≡ run_of c
all_played session cycles n c unended h = no_cycles session cycles n (run_of c) (none (length c.entries) (played_out cycles c unended h))
  where
    none : (l : ℕ) → cycles ≤ l → min n (cycles - l) ≡ 0
    none l le = omega (arith, le)

last_settled : (k : ℕ) (entries : List Entry) → is_last_settled k entries ≡ true → needs_cycle k entries ≡ false
last_settled k [] h = absurd (false≢true h)
last_settled k (e ∷ es) h = le-ltb e.settled k (leb-true k e.settled h)

-- what is waited for and is over asks no cycle more
pub over_is : (session : Session) (cycles : ℕ) (c : Core) (a : Awaited) → has_quit c.edits c.playing ≡ false → ((k : ℕ) → Some a ≡ Some (SettledIn k) → k ≡ length c.edits) →
    is_over cycles c a ≡ true →
    waited session cycles (Some a) (run_of c) ≡ run_of c
over_is session cycles c (Entries n) unended newest h = elim (or_cases (nat_le n (length c.entries)) (is_played_out cycles c) h) [
  | inl le ↦ no_cycles session cycles (n - length c.entries) (run_of c) (none (length c.entries) (leb-true n (length c.entries) le))
  | inr out ↦ all_played session cycles (n - length c.entries) c unended out
]
  where
    none : (l : ℕ) → n ≤ l → min (n - l) (cycles - l) ≡ 0
    none l le = omega (arith, le)
over_is session cycles c (SettledIn k) unended newest h = elim (or_cases (is_last_settled k c.entries) (is_played_out cycles c) h) [
  | inl settled ↦ ap (λ b. if b then with_cycles session cycles 1 (run_of c) else run_of c)
      (last_settled (length c.edits) c.entries (subst (λ n. is_last_settled n c.entries ≡ true) (newest k refl) settled))
  | inr out ↦ by (needs_cycle (length c.edits) c.entries) (all_played session cycles 1 c unended out)
]
  where
    by : (b : Bool) → with_cycles session cycles 1 (run_of c) ≡ run_of c → (if b then with_cycles session cycles 1 (run_of c) else run_of c) ≡ run_of c
    by true e = e
    by false e = refl

-- and its answer is that of the run so far
pub answers_so : (session : Session) (cycles : ℕ) (c : Core) (a : Awaited) → waited session cycles (Some a) (run_of c) ≡ run_of c → answered session cycles (Some a) (run_of c) ≡ answer_to c a ∷ []
answers_so session cycles c (Entries n) same = refl
answers_so session cycles c (SettledIn k) same = ap (λ r. synced_by k r.entries ∷ []) same

-- ---- a cycle more

more_cycles : (session : Session) (cycles n m : ℕ) (run : Run) → min n (cycles - length run.entries) ≡ suc (min m (cycles - suc (length run.entries))) →
    with_cycles session cycles n run ≡ with_cycles session cycles m (next_run session run)
more_cycles session cycles n m run e = ap (λ k. record run { entries = plain_cycles session run.edits k run.entries }) e

not_settled : (k : ℕ) (entries : List Entry) → is_last_settled k entries ≡ false → needs_cycle k entries ≡ true
not_settled k [] h = refl
not_settled k (e ∷ es) h = lt-ltb e.settled k (leb-false k e.settled h)

-- what is waited for, where it isn't over, is the same after one cycle more
pub waits_on : (session : Session) (cycles : ℕ) (c : Core) (a : Awaited) → ((k : ℕ) → Some a ≡ Some (SettledIn k) → k ≡ length c.edits) → is_over cycles c a ≡ false →
    waited session cycles (Some a) (run_of c) ≡ waited session cycles (Some a) (next_run session (run_of c))
waits_on session cycles c (Entries n) newest h = let parts = or_parts (nat_le n (length c.entries)) (is_played_out cycles c) h in
    let out = or_parts (nat_le cycles (length c.entries)) (has_quit c.edits c.playing) parts.1 in
    more_cycles session cycles (n - length c.entries) (n - suc (length c.entries)) (run_of c)
    (one (length c.entries) (leb-false n (length c.entries) parts.0) (leb-false cycles (length c.entries) out.0))
  where
    one : (l : ℕ) → l < n → l < cycles → min (n - l) (cycles - l) ≡ suc (min (n - suc l) (cycles - suc l))
    one l x y = omega (arith, x, y)
waits_on session cycles c (SettledIn k) newest h = let parts = or_parts (is_last_settled k c.entries) (is_played_out cycles c) h in
    let out = or_parts (nat_le cycles (length c.entries)) (has_quit c.edits c.playing) parts.1 in
    ap (λ b. if b then with_cycles session cycles 1 (run_of c) else run_of c) (not_settled (length c.edits) c.entries (subst (λ n. is_last_settled n c.entries ≡ false) (newest k refl) parts.0))
    ∙ more_cycles session cycles 1 0 (run_of c) (one (length c.entries) (leb-false cycles (length c.entries) out.0))
    ∙ no_cycles session cycles 0 (next_run session (run_of c)) (omega arith)
    ∙ sym (ap (λ b. if b then with_cycles session cycles 1 (next_run session (run_of c)) else next_run session (run_of c)) (le-ltb (length c.edits) (length c.edits) (omega arith)))
  where
    one : (l : ℕ) → l < cycles → min 1 (cycles - l) ≡ suc (min 0 (cycles - suc l))
    one l x = omega (arith, x)

-- so is all that is left, where there are cycles left
pub plays_on : (session : Session) (cycles : ℕ) (run : Run) → length run.entries < cycles → with_cycles session cycles cycles run ≡ with_cycles session cycles cycles (next_run session run)
plays_on session cycles run lt = more_cycles session cycles cycles cycles run (one (length run.entries) lt)
  where
    one : (l : ℕ) → l < cycles → min cycles (cycles - l) ≡ suc (min cycles (cycles - suc l))
    one l x = omega (arith, x)

-- ---- replies

pub one_reply : (reply : Reply) (replies rest : List Reply) → reverse (reply ∷ replies) ++ rest ≡ reverse replies ++ reply ∷ rest
one_reply reply replies rest = ap (λ l. l ++ rest) (reverse-append (reply ∷ []) replies) ∙ append_assoc (reverse replies) (reply ∷ []) rest
