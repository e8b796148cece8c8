-- A serial cycle goes the way of the core machine, letter by letter.
use Rattle.std.proofs.Common.{◌≡◌, subst, sym}
use Rattle.std.specs.Prelude.{Bool, true}
use Rattle.session_model.specs.declared.session.Session.{Session}
use Rattle.machine_model.specs.Events.{EnterProcess, after, step}
use Rattle.machine_model.specs.Letters.{butler_moves, cycle_moves, gather_moves}
use Rattle.machine_model.specs.Rest.{BeforeEntry, BeforeLook, BeforeTurn, Between, Phase}
use Rattle.engine_core.specs.declared.run.Run.{Run}
use Rattle.run_end.specs.Failures.{nothing_failed}
use Rattle.engine_core.specs.Letters.{CycleIsP, EnteringIsE, GatheringIsG, TurnIsB}
use Rattle.engine_core.specs.Cycles.{GoesAsMachine, PlaysAsMachine}
use Rattle.engine_core.specs.Leading.{LeadsOn}
use Rattle.engine_core.proofs.PhaseLemmas.{after_turn, cycle_on, enter_on, gather_on, turn_on}

module _ {V I W : Type 0} (s : Session) where
  -- ---- one letter

  pub leads_itself : (phase : Phase) (r : Run V I W) → GoesAsMachine s phase phase r r
  leads_itself phase r c fine tied = record { core = c; tied = tied; led = λ run st gone. gone }

  pub turn_leads : (old new : Run V I W) (idle : Bool) → TurnIsB s old idle new → GoesAsMachine s BeforeTurn (after_turn idle) old new
  turn_leads old new idle is c fine tied = let k = old.pair.butler.cycles in let turned = is c fine tied in record {
    core = after s k c (butler_moves s k c);
    tied = turned.0;
    led = subst (λ b. LeadsOn s k BeforeTurn c (after_turn b) (after s k c (butler_moves s k c))) (sym turned.1) (turn_on s k c);
  }

  pub gather_leads : (old new : Run V I W) → GatheringIsG s old new → GoesAsMachine s BeforeLook BeforeTurn old new
  gather_leads old new is c fine tied = let k = old.pair.butler.cycles in record { core = after s k c (gather_moves s k c); tied = (is c fine tied).0; led = gather_on s k c }

  pub cycle_leads : (old new : Run V I W) → CycleIsP s old new → GoesAsMachine s BeforeEntry Between old new
  cycle_leads old new is c fine tied = let k = old.pair.butler.cycles in record { core = after s k c (cycle_moves s k c); tied = is c fine tied; led = cycle_on s k c }

  -- ---- one after another

  pub leads_then : (one two three : Phase) (a b c : Run V I W) → b.pair.butler.cycles ≡ a.pair.butler.cycles → (nothing_failed c.failed ≡ true → nothing_failed b.failed ≡ true) →
      GoesAsMachine s one two a b → GoesAsMachine s two three b c → GoesAsMachine s one three a c
  leads_then one two three a b c same fine first second core ok tied = let m = first core (fine ok) tied in let n = second m.core ok m.tied in record {
    core = n.core;
    tied = n.tied;
    led = λ run st gone. subst (λ k. LeadsOn s k two m.core three n.core) same n.led run st (m.led run st gone);
  }

  -- a turn, after turns and looks
  pub turns_then : (a b c : Run V I W) (idle : Bool) → b.pair.butler.cycles ≡ a.pair.butler.cycles → (nothing_failed c.failed ≡ true → nothing_failed b.failed ≡ true) →
      GoesAsMachine s BeforeTurn BeforeTurn a b → TurnIsB s b idle c → GoesAsMachine s BeforeTurn (after_turn idle) a c
  turns_then a b c idle same fine was is = leads_then BeforeTurn BeforeTurn (after_turn idle) a b c same fine was (turn_leads b c idle is)

  -- **A serial cycle** is the letter E, the letters of turns and looks, and the letter P.
  pub cycle_plays : (a b c : Run V I W) → b.pair.butler.cycles ≡ a.pair.butler.cycles → (nothing_failed c.failed ≡ true → nothing_failed b.failed ≡ true) →
      EnteringIsE s a b → GoesAsMachine s BeforeTurn Between b c → PlaysAsMachine s a c
  cycle_plays a b c same fine enters rest core ok tied = let k = a.pair.butler.cycles in let n = rest (step s k core EnterProcess) ok (enters core (fine ok) tied) in record {
    core = n.core;
    tied = n.tied;
    led = λ run st plays gone. subst (λ j. LeadsOn s j BeforeTurn (step s k core EnterProcess) Between n.core) same n.led run st (enter_on s k core run st plays gone);
  }
