-- The work that is left of a run: a control letter that carries something out leaves less.
use Rattle.std.proofs.Common.{◌≡◌, ℕ, suc, ◌+◌, ◌-◌, ◌<◌, ◌≤◌, List, [], ◌∷◌, length, refl, sym, ap, subst, arith}
use Rattle.std.specs.Prelude.{Bool, true, false, ◌||◌, nat_le, if◌then◌else◌, Option, Some, None, Ok, Err}
use Rattle.session_model.specs.declared.session.Session.{Session}
use Rattle.session_model.specs.declared.edit.Edit.{Edit}
use Rattle.engine_model.specs.Edits.{is_quit}
use Rattle.engine_model.specs.Editions.{Edition, edition, apply}
use Rattle.engine_model.specs.Refusals.{Checked}
use Rattle.engine_model.specs.Plain.{Do, Wait, Sync}
use Rattle.engine_model.specs.Lines.{Line, Nothing, Says, Unread, accepts_after}
use Rattle.engine_laws.proofs.EditionLemmas.{quit_stays}
use Rattle.machine_model.specs.Core.{Core}
use Rattle.machine_model.specs.Control.{Control, Awaited, Entries, SettledIn, is_over, is_played_out, waiting_for, edit_done}
use Rattle.machine_model.specs.Control.{line_done, published, next_line_done, next_published, control_by, published_by, replying, answer_to}
use Rattle.machine_model.specs.Events.{Publish, can, done, step, after}
use Rattle.machine_model.specs.Letters.{Machine}
use Rattle.machine_model.specs.Rest.{Carry, Play, Finish, is_finished, next_task}
use Rattle.machine_laws.specs.Stands.{Stands}

-- ---- the work that is left

abbrev pub waits : Option Awaited → ℕ
waits None = 0
waits (Some a) = 1

-- of control: two for each line, and one for what is waited for
abbrev pub work : Control → ℕ
work control = (length control.lines + length control.lines) + waits control.awaits

-- and of the process: the cycles that can still be made
abbrev pub cycles_left : ℕ → Core → ℕ
cycles_left cycles c = if is_played_out cycles c then 0 else cycles - length c.entries

abbrev pub all_work : ℕ → Machine → ℕ
all_work cycles m = work m.control + cycles_left cycles m.core

-- ---- a line

edit_work : (answer : Checked Edition) (quits : Bool) (rest : Control) → rest.awaits ≡ None → work (edit_done answer quits rest) ≤ suc (length rest.lines + length rest.lines)
edit_work (Err why) quits rest none = low (waits rest.awaits) (ap waits none)
  where
    low : (w : ℕ) → w ≡ 0 → (length rest.lines + length rest.lines) + w ≤ suc (length rest.lines + length rest.lines)
    low w e = omega (arith, e)
edit_work (Ok next) true rest none = low (waits rest.awaits) (ap waits none)
  where
    low : (w : ℕ) → w ≡ 0 → (0 + 0) + w ≤ suc (length rest.lines + length rest.lines)
    low w e = omega (arith, e)
edit_work (Ok next) false rest none = low (waits rest.awaits) (ap waits none)
  where
    low : (w : ℕ) → w ≡ 0 → (length rest.lines + length rest.lines) + w ≤ suc (length rest.lines + length rest.lines)
    low w e = omega (arith, e)

same_work : (rest : Control) → rest.awaits ≡ None → work rest ≤ suc (length rest.lines + length rest.lines)
same_work rest none = low (waits rest.awaits) (ap waits none)
  where
    low : (w : ℕ) → w ≡ 0 → (length rest.lines + length rest.lines) + w ≤ suc (length rest.lines + length rest.lines)
    low w e = omega (arith, e)

wait_work : (cycles : ℕ) (c : Core) (a : Awaited) (rest : Control) → rest.awaits ≡ None → work (waiting_for cycles c a rest) ≤ suc (length rest.lines + length rest.lines)
wait_work cycles c a rest none = by (is_over cycles c a)
  where
    by : (b : Bool) → work (if b then replying (answer_to c a) rest else record rest { awaits = Some a }) ≤ suc (length rest.lines + length rest.lines)
    by true = same_work rest none
    by false = omega arith

line_work : (session : Session) (cycles : ℕ) (c : Core) (rest : Control) (line : Line) → rest.awaits ≡ None → work (line_done session cycles c rest line) ≤ suc (length rest.lines + length rest.lines)
line_work session cycles c rest Nothing none = same_work rest none
line_work session cycles c rest (Unread why) none = same_work rest none
line_work session cycles c rest (Says (Do edit)) none = edit_work (apply (edition session c.edits (length c.edits)) edit) (is_quit edit) rest none
line_work session cycles c rest (Says (Wait n)) none = wait_work cycles c (Entries (length c.entries + n)) rest none
line_work session cycles c rest (Says Sync) none = wait_work cycles c (SettledIn (length c.edits)) rest none

-- the next line, where there is one, leaves less work
next_work : (session : Session) (cycles : ℕ) (c : Core) (control : Control) (lines : List Line) → control.awaits ≡ None → control.lines ≡ lines →
    work (next_line_done session cycles c control lines) ≤ length control.lines + length control.lines
next_work session cycles c control [] none is = low (waits control.awaits) (ap waits none)
  where
    low : (w : ℕ) → w ≡ 0 → (length control.lines + length control.lines) + w ≤ length control.lines + length control.lines
    low w e = omega (arith, e)
next_work session cycles c control (line ∷ lines) none is =
    low (work (next_line_done session cycles c control (line ∷ lines))) (length control.lines) (line_work session cycles c (record control { lines = lines }) line none) (ap length is)
  where
    low : (w n : ℕ) → w ≤ suc (length lines + length lines) → n ≡ suc (length lines) → w ≤ n + n
    low w n x e = omega (arith, x, e)

-- ---- what is published leaves the cycles

publish_left : (session : Session) (cycles : ℕ) (c : Core) (edit : Edit) → Stands session cycles c → cycles_left cycles (step session cycles c (Publish edit)) ≡ cycles_left cycles c
publish_left session cycles c edit s = by (can session cycles c (Publish edit))
  where
    by : (b : Bool) → cycles_left cycles (if b then done session cycles c (Publish edit) else c) ≡ cycles_left cycles c
    by true = ap (λ q. if nat_le cycles (length c.entries) || q then 0 else cycles - length c.entries) (quit_stays c.edits (edit ∷ []) c.playing s.playing)
    by false = refl

line_left : (session : Session) (cycles : ℕ) (c : Core) (line : Line) → Stands session cycles c → cycles_left cycles (after session cycles c (published session c line)) ≡ cycles_left cycles c
line_left session cycles c Nothing s = refl
line_left session cycles c (Unread why) s = refl
line_left session cycles c (Says (Do edit)) s = by (accepts_after session c.edits edit)
  where
    by : (b : Bool) → cycles_left cycles (after session cycles c (if b then Publish edit ∷ [] else [])) ≡ cycles_left cycles c
    by true = publish_left session cycles c edit s
    by false = refl
line_left session cycles c (Says (Wait n)) s = refl
line_left session cycles c (Says Sync) s = refl

next_left : (session : Session) (cycles : ℕ) (c : Core) (lines : List Line) → Stands session cycles c →
    cycles_left cycles (after session cycles c (next_published session c lines)) ≡ cycles_left cycles c
next_left session cycles c [] s = refl
next_left session cycles c (line ∷ lines) s = line_left session cycles c line s

-- ---- a control letter that carries something out leaves less

pub carry_work : (session : Session) (cycles : ℕ) (c : Core) (control : Control) (awaits : Option Awaited) → Stands session cycles c → control.awaits ≡ awaits →
    next_task cycles c awaits control.lines ≡ Carry →
    (work (control_by session cycles c control awaits) < work control) × (cycles_left cycles (after session cycles c (published_by session cycles c control.lines awaits)) ≡ cycles_left cycles c)
carry_work session cycles c control None s none task = (by control.lines refl task, next_left session cycles c control.lines s)
  where
    finish_not : (b : Bool) → (if b then Finish else Play) ≡ Carry → ⊥
    finish_not true e = cc
    finish_not false e = cc

    by : (lines : List Line) → control.lines ≡ lines → next_task cycles c None lines ≡ Carry → work (next_line_done session cycles c control control.lines) < work control
    by [] is e = absurd (finish_not (is_finished cycles c) e)
    by (line ∷ lines) is e = subst (λ l. work (next_line_done session cycles c control l) < work control) (sym is)
        (low (work (line_done session cycles c (record control { lines = lines }) line)) (length control.lines) (waits control.awaits)
        (line_work session cycles c (record control { lines = lines }) line none) (ap length is))
      where
        low : (w n a : ℕ) → w ≤ suc (length lines + length lines) → n ≡ suc (length lines) → w < (n + n) + a
        low w n a x e' = omega (arith, x, e')
carry_work session cycles c control (Some a) s some task = by (is_over cycles c a) task
  where
    play_not : Play ≡ Carry → ⊥
    play_not e = cc

    low : (w n b : ℕ) → w ≤ n → b ≡ 1 → w < n + b
    low w n b x e = omega (arith, x, e)

    by : (b : Bool) → (if b then Carry else Play) ≡ Carry →
        (work (if b then next_line_done session cycles c (record (replying (answer_to c a) control) { awaits = None }) control.lines else control) < work control)
        × (cycles_left cycles (after session cycles c (if b then next_published session c control.lines else [])) ≡ cycles_left cycles c)
    by false e = absurd (play_not e)
    by true e = (
      low (work (next_line_done session cycles c (record (replying (answer_to c a) control) { awaits = None }) control.lines)) (length control.lines + length control.lines) (waits control.awaits)
          (next_work session cycles c (record (replying (answer_to c a) control) { awaits = None }) control.lines refl refl) (ap waits some),
      next_left session cycles c control.lines s,
    )
