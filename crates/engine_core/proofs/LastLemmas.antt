-- The last letters of a run lead to its end.
use Rattle.std.proofs.Common.{◌≡◌, ℕ, zero, suc, ◌-◌, List, [], ◌∷◌, length, refl, sym, ap, subst, ◌∙◌}
use Rattle.std.specs.Prelude.{Bool, true, false, ◌||◌, if◌then◌else◌, nat_le, Option, Some, None, replicate}
use Rattle.std.specs.List.{list_all}
use Rattle.std.proofs.lemmas.Bool.{and_parts, and_from, false≢true}
use Rattle.std.proofs.lemmas.List.Folds.{list_all-append}
use Rattle.session_model.specs.declared.session.Session.{Session}
use Rattle.engine_model.specs.Edits.{has_quit}
use Rattle.engine_model.specs.Lines.{Line}
use Rattle.machine_model.specs.Core.{Core}
use Rattle.machine_model.specs.Events.{Event, ToButler, ToControl, Publish, EnterButler, Send, Flush, EnterProcess, Look, Capture, End, AckSend, AckTake, can, done, step, after}
use Rattle.machine_model.specs.Letters.{B, first_move, one_move, butler_begins, butler_moves, is_idle}
use Rattle.machine_model.specs.Rest.{Between, Finish, Over, Play, begin_task, is_finished, next_letter, next_task}
use Rattle.machine_laws.proofs.SerialTurns.{is_moving, moves_so}
use Rattle.serial_laws.specs.Leads.{HasGoneOn, Run}
use Rattle.serial_laws.specs.Standing.{MayCome, Standing, machine_of}
use Rattle.serial_laws.proofs.RestLemmas.{the_next_letter_leads_on}
use Rattle.engine_core.proofs.EventLemmas.{b_isnt_c}
use Rattle.engine_core.specs.MachineEnds.{DrainsTo}

-- ---- what the events of the butler leave

pub record LeavesProcess (c d : Core) : Type 0 where
  pub edits : d.edits ≡ c.edits
  pub entries : d.entries ≡ c.entries
  pub playing : d.playing ≡ c.playing
  pub in_cycle : d.in_cycle ≡ c.in_cycle

leaves_itself : (c : Core) → LeavesProcess c c
leaves_itself c = record { edits = refl; entries = refl; playing = refl; in_cycle = refl }

leaves_more : (a b c : Core) → LeavesProcess a b → LeavesProcess b c → LeavesProcess a c
leaves_more a b c one two = record { edits = two.edits ∙ one.edits; entries = two.entries ∙ one.entries; playing = two.playing ∙ one.playing; in_cycle = two.in_cycle ∙ one.in_cycle }

abbrev is_butlers : Event → Bool
is_butlers EnterButler = true
is_butlers (Send t) = true
is_butlers (Flush t) = true
is_butlers (AckTake side) = true
is_butlers (Publish edit) = false
is_butlers EnterProcess = false
is_butlers (Look t) = false
is_butlers (Capture t) = false
is_butlers End = false
is_butlers (AckSend side) = false

step_leaves : (s : Session) (cycles : ℕ) (c : Core) (event : Event) → is_butlers event ≡ true → LeavesProcess c (step s cycles c event)
step_leaves s cycles c event butlers = by (can s cycles c event)
  where
    does : (event : Event) → is_butlers event ≡ true → LeavesProcess c (done s cycles c event)
    does EnterButler e = record { edits = refl; entries = refl; playing = refl; in_cycle = refl }
    does (Send t) e = record { edits = refl; entries = refl; playing = refl; in_cycle = refl }
    does (Flush t) e = record { edits = refl; entries = refl; playing = refl; in_cycle = refl }
    does (AckTake ToButler) e = record { edits = refl; entries = refl; playing = refl; in_cycle = refl }
    does (AckTake ToControl) e = record { edits = refl; entries = refl; playing = refl; in_cycle = refl }
    does (Publish edit) e = absurd (false≢true e)
    does EnterProcess e = absurd (false≢true e)
    does (Look t) e = absurd (false≢true e)
    does (Capture t) e = absurd (false≢true e)
    does End e = absurd (false≢true e)
    does (AckSend side) e = absurd (false≢true e)

    by : (b : Bool) → LeavesProcess c (if b then done s cycles c event else c)
    by true = does event butlers
    by false = leaves_itself c

after_leaves : (s : Session) (cycles : ℕ) (c : Core) (events : List Event) → list_all is_butlers events ≡ true → LeavesProcess c (after s cycles c events)
after_leaves s cycles c [] all = leaves_itself c
after_leaves s cycles c (event ∷ events) all = let parts = and_parts (is_butlers event) (list_all is_butlers events) all in
    leaves_more c (step s cycles c event) (after s cycles (step s cycles c event) events) (step_leaves s cycles c event parts.0)
    (after_leaves s cycles (step s cycles c event) events parts.1)

all_takes : (n : ℕ) → list_all is_butlers (replicate n (AckTake ToButler)) ≡ true
all_takes zero = refl
all_takes (suc n) = all_takes n

moving_is : (event : Event) → is_moving event ≡ true → is_butlers event ≡ true
moving_is (Send t) e = refl
moving_is (Flush t) e = refl
moving_is (Publish edit) e = absurd (false≢true e)
moving_is EnterButler e = refl
moving_is EnterProcess e = absurd (false≢true e)
moving_is (Look t) e = absurd (false≢true e)
moving_is (Capture t) e = absurd (false≢true e)
moving_is End e = absurd (false≢true e)
moving_is (AckSend side) e = absurd (false≢true e)
moving_is (AckTake side) e = refl

-- the letter B leaves the edits, the entries and what the process is in
pub turn_leaves : (s : Session) (cycles : ℕ) (c : Core) → LeavesProcess c (after s cycles c (butler_moves s cycles c))
turn_leaves s cycles c = after_leaves s cycles c (butler_moves s cycles c) (list_all-append is_butlers (butler_begins c) (one_move (first_move s cycles begun))
    ∙ and_from (list_all is_butlers (butler_begins c)) (list_all is_butlers (one_move (first_move s cycles begun))) (all_takes (length c.to_butler.sent - c.to_butler.taken)) (by (first_move s cycles begun) refl))
  where
    begun : Core
    begun = after s cycles c (butler_begins c)

    by : (o : Option Event) → first_move s cycles begun ≡ o → list_all is_butlers (one_move o) ≡ true
    by None is = refl
    by (Some event) is = and_from (is_butlers event) true (moving_is event (moves_so s cycles begun event is)) refl

-- where no cycle is made any more none is after a turn
still_finished : (cycles : ℕ) (c d : Core) → LeavesProcess c d → is_finished cycles c ≡ true → is_finished cycles d ≡ true
still_finished cycles c d leaves is = (λ i. has_quit (leaves.edits i) (length (leaves.edits i)) || (nat_le cycles (length (leaves.entries i)) || has_quit (leaves.edits i) (leaves.playing i))) ∙ is

-- ---- the last turns

module _ (s : Session) (cycles : ℕ) (run : Run) where
  -- where nothing else is left a turn is next, and the last one is idle
  turn_is_next : (st : Standing) (idle : Bool) → st.ended ≡ true → st.awaits ≡ None → is_finished cycles st.core ≡ true → is_idle s cycles st.core ≡ idle → (more : List Line) → MayCome st more →
      next_letter s cycles Between (machine_of st more) ≡ Some (B, if idle then Over else Between)
  turn_is_next st idle ended quiet finished is more may =
      ap (λ b. Some (begin_task (is_idle s cycles st.core) (next_task cycles st.core st.awaits (if b then [] else more)))) ended
      ∙ ap (λ a. Some (begin_task (is_idle s cycles st.core) (next_task cycles st.core a []))) quiet
      ∙ ap (λ b. Some (begin_task (is_idle s cycles st.core) (if b then Finish else Play))) finished
      ∙ ap (λ b. Some (begin_task b Finish)) is

  -- **the last turns lead to the end of the run**
  pub drains_over : (turns : ℕ) (st : Standing) (last : Core) → st.ended ≡ true → st.awaits ≡ None → is_finished cycles st.core ≡ true → DrainsTo s cycles st.core turns last →
      HasGoneOn s cycles run Between st → HasGoneOn s cycles run Over (record st { core = last })
  drains_over zero st last ended quiet finished drains come = subst (λ c. HasGoneOn s cycles run Over (record st { core = c })) (sym drains.1)
      (the_next_letter_leads_on s cycles run Between Over st B b_isnt_c (turn_is_next st true ended quiet finished drains.0) come)
  drains_over (suc turns) st last ended quiet finished drains come = let c = after s cycles st.core (butler_moves s cycles st.core) in
      drains_over turns (record st { core = c }) last ended quiet (still_finished cycles st.core c (turn_leaves s cycles st.core) finished) drains.1
      (the_next_letter_leads_on s cycles run Between Between st B b_isnt_c (turn_is_next st false ended quiet finished drains.0) come)
