-- The letters of a serial cycle lead the core machine from phase to phase.
use Rattle.std.proofs.Common.{◌≢◌, ℕ, refl, ap}
use Rattle.std.specs.Prelude.{Bool, if◌then◌else◌, Some}
use Rattle.session_model.specs.declared.session.Session.{Session}
use Rattle.machine_model.specs.Core.{Core}
use Rattle.machine_model.specs.Events.{EnterProcess, after, step}
use Rattle.machine_model.specs.Letters.{B, C, E, G, P, butler_moves, cycle_moves, gather_moves, is_idle}
use Rattle.machine_model.specs.Rest.{BeforeEntry, BeforeLook, BeforeTurn, Between, Phase, Task, begin_task}
use Rattle.serial_laws.specs.Leads.{Run, HasGoneOn}
use Rattle.serial_laws.specs.Standing.{Standing}
use Rattle.serial_laws.proofs.RestLemmas.{the_next_letter_leads_on}
use Rattle.engine_core.specs.Leading.{IsToPlay, LeadsOn}

-- none of the workers' letters is control's
b_is_not : B ≢ C
b_is_not e = absurd cc

e_is_not : E ≢ C
e_is_not e = absurd cc

g_is_not : G ≢ C
g_is_not e = absurd cc

p_is_not : P ≢ C
p_is_not e = absurd cc

-- where the rest stands after a turn
abbrev pub after_turn : Bool → Phase
after_turn idle = if idle then BeforeEntry else BeforeLook

module _ (s : Session) (cycles : ℕ) (c : Core) where
  -- the process enters, where a cycle is next,
  pub enter_on : (run : Run) (st : Standing) → IsToPlay cycles (record st { core = c }) → HasGoneOn s cycles run Between (record st { core = c }) →
      HasGoneOn s cycles run BeforeTurn (record st { core = step s cycles c EnterProcess })
  enter_on run st plays gone = the_next_letter_leads_on s cycles run Between BeforeTurn (record st { core = c }) E e_is_not
      (λ more may. ap (λ (t : Task). Some (begin_task (is_idle s cycles c) t)) (plays more may)) gone

  -- a turn is made,
  pub turn_on : LeadsOn s cycles BeforeTurn c (after_turn (is_idle s cycles c)) (after s cycles c (butler_moves s cycles c))
  turn_on run st gone = the_next_letter_leads_on s cycles run BeforeTurn (after_turn (is_idle s cycles c)) (record st { core = c }) B b_is_not (λ more may. refl) gone

  -- the process looks,
  pub gather_on : LeadsOn s cycles BeforeLook c BeforeTurn (after s cycles c (gather_moves s cycles c))
  gather_on run st gone = the_next_letter_leads_on s cycles run BeforeLook BeforeTurn (record st { core = c }) G g_is_not (λ more may. refl) gone

  -- and makes its entry
  pub cycle_on : LeadsOn s cycles BeforeEntry c Between (after s cycles c (cycle_moves s cycles c))
  cycle_on run st gone = the_next_letter_leads_on s cycles run BeforeEntry Between (record st { core = c }) P p_is_not (λ more may. refl) gone
