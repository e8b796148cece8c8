-- From every machine in which all stands there are letters to the end of its run: each line and each cycle leaves less work.
use Rattle.std.proofs.Common.{◌≡◌, inl, inr, ℕ, zero, suc, ◌+◌, ◌-◌, ◌<◌, ◌≤◌, List, [], ◌∷◌, length, refl, sym, ap, subst, arith, ◌∙◌}
use Rattle.std.specs.Prelude.{Bool, true, false, ◌&&◌, not, nat_le, nat_lt, if◌then◌else◌, Option, Some, None}
use Rattle.std.proofs.lemmas.Bool.{and_from, or_parts, or_right, lt-ltb, leb-false, not_from_true, not_from_false}
use Rattle.session_model.specs.declared.session.Session.{Session}
use Rattle.engine_model.specs.Edits.{has_quit}
use Rattle.engine_model.specs.Lines.{Line}
use Rattle.machine_model.specs.Core.{Core}
use Rattle.machine_model.specs.Control.{Awaited, Entries, SettledIn, is_over, is_played_out, is_last_settled}
use Rattle.machine_model.specs.Events.{EnterProcess, done, step}
use Rattle.machine_model.specs.Letters.{C, E, Machine, is_idle, by_letter}
use Rattle.machine_model.specs.Rest.{Between, BeforeTurn, Task, Carry, Play, Finish, is_finished, next_task, task_of, begin_task, next_letter}
use Rattle.machine_laws.specs.Ends.{EveryRunEnds, most_ever, left_to_move}
use Rattle.machine_laws.specs.Stands.{Stands}
use Rattle.machine_laws.proofs.EndsLemmas.{Rests, Open, GotOn, one_more, stands_on, turns, last_turns}
use Rattle.machine_laws.proofs.LookLemmas.{enters_not}
use Rattle.machine_laws.proofs.WorkLemmas.{work, cycles_left, all_work, carry_work}

-- ---- a cycle leaves less

-- where a cycle is played, not all are
can_play : (cycles : ℕ) (c : Core) (awaits : Option Awaited) (lines : List Line) → next_task cycles c awaits lines ≡ Play → is_played_out cycles c ≡ false
can_play cycles c (Some (Entries n)) lines task = (or_parts (nat_le n (length c.entries)) (is_played_out cycles c) (by (is_over cycles c (Entries n)) task)).1
  where
    by : (b : Bool) → (if b then Carry else Play) ≡ Play → b ≡ false
    by true e = absurd (cc)
    by false e = refl
can_play cycles c (Some (SettledIn k)) lines task = (or_parts (is_last_settled k c.entries) (is_played_out cycles c) (by (is_over cycles c (SettledIn k)) task)).1
  where
    by : (b : Bool) → (if b then Carry else Play) ≡ Play → b ≡ false
    by true e = absurd (cc)
    by false e = refl
can_play cycles c None (line ∷ lines) task = absurd (carry_not task)
  where
    carry_not : Carry ≡ Play → ⊥
    carry_not e = cc
can_play cycles c None [] task = (or_parts (has_quit c.edits (length c.edits)) (is_played_out cycles c) (by (is_finished cycles c) task)).1
  where
    by : (b : Bool) → (if b then Finish else Play) ≡ Play → b ≡ false
    by true e = absurd (cc)
    by false e = refl

-- the process's letter opens a cycle, or finds the quit
opens : (session : Session) (cycles : ℕ) (c : Core) → is_played_out cycles c ≡ false → Open (step session cycles c EnterProcess) × ((step session cycles c EnterProcess).entries ≡ c.entries)
opens session cycles c left = by c.in_cycle refl
  where
    parts : (nat_le cycles (length c.entries) ≡ false) × (has_quit c.edits c.playing ≡ false)
    parts = or_parts (nat_le cycles (length c.entries)) (has_quit c.edits c.playing) left

    enters : c.in_cycle ≡ false → step session cycles c EnterProcess ≡ done session cycles c EnterProcess
    enters shut = ap (λ b. if b then done session cycles c EnterProcess else c) (and_from (not c.in_cycle && nat_lt (length c.entries) cycles) (not (has_quit c.edits c.playing))
        (and_from (not c.in_cycle) (nat_lt (length c.entries) cycles) (not_from_false c.in_cycle shut) (lt-ltb (length c.entries) cycles (leb-false cycles (length c.entries) parts.0)))
        (not_from_false (has_quit c.edits c.playing) parts.1))

    opened : (q : Bool) → has_quit c.edits (length c.edits) ≡ q → Open (done session cycles c EnterProcess)
    opened false e = inl (not_from_false (has_quit c.edits (length c.edits)) e)
    opened true e = inr (not_from_true (has_quit c.edits (length c.edits)) e, e)

    by : (b : Bool) → c.in_cycle ≡ b → Open (step session cycles c EnterProcess) × ((step session cycles c EnterProcess).entries ≡ c.entries)
    by true is = subst (λ d. Open d × (d.entries ≡ c.entries)) (sym (enters_not session cycles c is)) (inl is, refl)
    by false is = subst (λ d. Open d × (d.entries ≡ c.entries)) (sym (enters is)) (opened (has_quit c.edits (length c.edits)) refl, refl)

cycle_less : (cycles : ℕ) (c d e : Core) → is_played_out cycles c ≡ false → d.entries ≡ c.entries → GotOn d e → cycles_left cycles e < cycles_left cycles c
cycle_less cycles c d e left same got = subst (λ b. cycles_left cycles e < (if b then 0 else cycles - length c.entries)) (sym left) (by got)
  where
    some : length c.entries < cycles
    some = leb-false cycles (length c.entries) (or_parts (nat_le cycles (length c.entries)) (has_quit c.edits c.playing) left).0

    less : (b : Bool) → length e.entries ≡ suc (length c.entries) → (if b then 0 else cycles - length e.entries) < cycles - length c.entries
    less true f = omega (arith, some)
    less false f = omega (arith, some, f)

    by : GotOn d e → cycles_left cycles e < cycles - length c.entries
    by (inl f) = less (is_played_out cycles e) (f ∙ ap (λ es. suc (length es)) same)
    by (inr q) = subst (λ b. (if b then 0 else cycles - length e.entries) < cycles - length c.entries) (sym (or_right (nat_le cycles (length e.entries)) (has_quit e.edits e.playing) q))
        (none (length c.entries) some)
      where
        none : (n : ℕ) → n < cycles → 0 < cycles - n
        none n lt = omega (arith, lt)

-- ---- to the end

ends_by : (session : Session) (cycles : ℕ) (m : Machine) → Stands session cycles m.core →
    ((n : Machine) → Stands session cycles n.core → all_work cycles n < all_work cycles m → Rests session cycles Between n) → Rests session cycles Between m
ends_by session cycles m s again = by (task_of cycles m) refl
  where
    letter : (task : Task) → task_of cycles m ≡ task → next_letter session cycles Between m ≡ Some (begin_task (is_idle session cycles m.core) task)
    letter task is = ap (λ k. Some (begin_task (is_idle session cycles m.core) k)) is

    sum : (a b x y : ℕ) → a < b → x ≡ y → a + x < b + y
    sum a b x y h e = omega (arith, h, e)

    sum_right : (a b x y : ℕ) → a ≡ b → x < y → a + x < b + y
    sum_right a b x y e h = omega (arith, h, e)

    by : (task : Task) → task_of cycles m ≡ task → Rests session cycles Between m
    by Finish is = last_turns session cycles (left_to_move (most_ever cycles m.core) m.core.tracks) m s is (omega arith)
    by Carry is = let less = carry_work session cycles m.core m.control m.control.awaits s refl is in
        one_more session cycles Between m C Between (letter Carry is) (again (by_letter session cycles m C) (stands_on session cycles m C s)
        (sum (work (by_letter session cycles m C).control) (work m.control) (cycles_left cycles (by_letter session cycles m C).core) (cycles_left cycles m.core) less.0 less.1))
    by Play is = let left = can_play cycles m.core m.control.awaits m.control.lines is in let open_now = opens session cycles m.core left in
        one_more session cycles Between m E BeforeTurn (letter Play is)
        (turns session cycles (left_to_move (most_ever cycles (by_letter session cycles m E).core) (by_letter session cycles m E).core.tracks) (by_letter session cycles m E)
        (stands_on session cycles m E s) open_now.0 (omega arith)
        (λ n t e got. again n t (sum_right (work n.control) (work m.control) (cycles_left cycles n.core) (cycles_left cycles m.core) (ap work e)
        (cycle_less cycles m.core (by_letter session cycles m E).core n.core left open_now.1 got))))

ends_within : (session : Session) (cycles p : ℕ) (m : Machine) → Stands session cycles m.core → all_work cycles m ≤ p → Rests session cycles Between m
ends_within session cycles zero m s low = ends_by session cycles m s (λ n t less. absurd (omega (arith, low, less)))
ends_within session cycles (suc p) m s low = ends_by session cycles m s (λ n t less. ends_within session cycles p n t (lower (all_work cycles n) (all_work cycles m) less low))
  where
    lower : (a b : ℕ) → a < b → b ≤ suc p → a ≤ p
    lower a b x y = omega (arith, x, y)

pub every_run_ends : EveryRunEnds
every_run_ends session cycles m s = ends_within session cycles (all_work cycles m) m s (omega arith)
