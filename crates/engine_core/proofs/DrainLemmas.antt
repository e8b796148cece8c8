-- The last turns, where nothing fails, are letters of the core machine.
use Rattle.std.proofs.Common.{◌≡◌, ℕ, zero, suc, ◌≤◌, length, refl, sym, ap, subst, ◌∙◌, arith}
use Rattle.std.specs.Prelude.{Bool, true, false, map, Result, Ok, Err}
use Rattle.std.proofs.lemmas.Bool.{false≢true}
use Rattle.std.proofs.lemmas.List.{length-map, length-reverse}
use Rattle.ses_io.specs.Outside.{MediaOutside}
use Rattle.session_model.specs.declared.session.Session.{Session}
use Rattle.machine_model.specs.Core.{Core}
use Rattle.machine_model.specs.Events.{after}
use Rattle.machine_model.specs.Letters.{butler_moves, is_idle}
use Rattle.disk_ring.proofs.Beginnings.{begins_length}
use Rattle.piece_item.specs.Views.{ack_of}
use Rattle.butler.specs.declared.turning.Turn.{Turn}
use Rattle.butler.specs.declared.faults.ButlerFault.{ButlerFault}
use Rattle.butler.specs.declared.faults.ButlerFault.TheVariants.{ReadFault, WriteFault}
use Rattle.worker_pair.specs.declared.ending.Ending.{Ending}
use Rattle.worker_pair.specs.Begun.{Begun}
use Rattle.worker_pair.specs.Steps.{TurnsAsMachine, is_idle_answer}
use Rattle.worker_pair.specs.Tied.{AreRingsOf}
use Rattle.worker_pair.proofs.CoreTurnLemmas.{ending_turned}
use Rattle.worker_pair.proofs.MachineTurnLemmas.{turn_stands}
use Rattle.run_end.specs.declared.failures.Failures.{Failures}
use Rattle.run_end.specs.Failures.{after_turn, nothing_failed}
use Rattle.run_end.specs.LastTurns.{IsLastTurn, TurnsTo, at_last}
use Rattle.run_end.proofs.FaultLemmas.{fine_before, some_read, some_write}
use Rattle.engine_core.specs.MachineEnds.{DrainsFrom}

module _ {V : Type 0} (media : MediaOutside V) (begun : Begun) where
  abbrev s : Session
  s = begun.session

  -- where nothing has failed at the end nothing had before
  fine_then : (n : ℕ) (old : Ending V) (was : Failures) (new : Ending V) (now : Failures) → TurnsTo media begun n old was new now → nothing_failed now ≡ true → nothing_failed was ≡ true
  fine_then zero old was new now turn fine = fine_before turn.answer was (ap nothing_failed (sym turn.noted) ∙ fine)
  fine_then (suc n) old was new now to fine = fine_before to.2.answer was (ap nothing_failed (sym to.2.noted) ∙ fine_then n to.0 to.1 new now to.3 fine)

  -- a turn that was answered Ok is the letter B
  by_answer : (answer : Result Turn ButlerFault) (idle : Bool) (old new : Ending V) (was : Failures) (c : Core) → is_idle_answer answer ≡ idle → nothing_failed (after_turn answer was) ≡ true →
      TurnsAsMachine s old answer new → AreRingsOf s c old →
      AreRingsOf s (after s old.butler.cycles c (butler_moves s old.butler.cycles c)) new × (is_idle s old.butler.cycles c ≡ idle)
  by_answer (Ok turn) idle old new was c so fine machine rings = let m = machine c rings in (m.0, sym m.1 ∙ so)
  by_answer (Err ReadFault) idle old new was c so fine machine rings = absurd (false≢true (sym (some_read was.input was.master was.write) ∙ fine))
  by_answer (Err WriteFault) idle old new was c so fine machine rings = absurd (false≢true (sym (some_write was.input was.master was.read) ∙ fine))

  module _ (idle : Bool) (old : Ending V) (was : Failures) (new : Ending V) (now : Failures) (turn : IsLastTurn media begun idle old was new now) where
    as_machine : TurnsAsMachine s old turn.answer new
    as_machine = let t = turn.turns in subst (TurnsAsMachine s old turn.answer) (sym t.same)
        (ending_turned media (at_last begun old) old turn.answer t.butler turn.serves t.turn new.ends new.butler.ends t.met (record t.butler { ends = new.butler.ends }) refl)

    cycles_stand : new.butler.cycles ≡ old.butler.cycles
    cycles_stand = ap (λ (e : Ending V). e.butler.cycles) turn.turns.same ∙ turn.turns.turn.rest.cycles

    module _ (c : Core) (fine : nothing_failed now ≡ true) (rings : AreRingsOf s c old) where
      abbrev next : Core
      next = after s old.butler.cycles c (butler_moves s old.butler.cycles c)

      does : AreRingsOf s next new × (is_idle s old.butler.cycles c ≡ idle)
      does = by_answer turn.answer idle old new was c turn.idle_so (ap nothing_failed (sym turn.noted) ∙ fine) as_machine rings

      -- no more acknowledgements were taken than were sent
      few : c.to_butler.taken ≤ length c.to_butler.sent
      few = omega (
        arith,
        rings.taken,
        ap length rings.acks,
        length-reverse (map ack_of old.ends.to_butler.sent),
        length-map old.ends.to_butler.sent ack_of,
        begins_length old.butler.ends.acks.received old.ends.to_butler.sent turn.serves.met.acks.passed.begins,
      )

      entries_stand : next.entries ≡ c.entries
      entries_stand = (turn_stands s old.butler.cycles c few).entries

      control_stands : next.to_control ≡ c.to_control
      control_stands = (turn_stands s old.butler.cycles c few).to_control

  -- **So the last turns are so many letters B**, the last of which moves nothing.
  pub drains_from : (n : ℕ) (old : Ending V) (was : Failures) (new : Ending V) (now : Failures) → TurnsTo media begun n old was new now → (c : Core) → nothing_failed now ≡ true → AreRingsOf s c old →
      DrainsFrom s old.butler.cycles c new
  drains_from zero old was new now turn c fine rings = let one = does true old was new now turn c fine rings in record {
    last = after s old.butler.cycles c (butler_moves s old.butler.cycles c);
    turns = zero;
    drains = (one.1, refl);
    rings = one.0;
    entries = entries_stand true old was new now turn c fine rings;
    to_control = control_stands true old was new now turn c fine rings;
  }
  drains_from (suc n) old was new now to c fine rings = let mid = to.0 in let by = to.1 in let turn = to.2 in let good = fine_then n mid by new now to.3 fine in
      let one = does false old was mid by turn c good rings in let d = after s old.butler.cycles c (butler_moves s old.butler.cycles c) in
      let rest = subst (λ k. DrainsFrom s k d new) (cycles_stand false old was mid by turn) (drains_from n mid by new now to.3 d fine one.0) in record {
        last = rest.last;
        turns = suc rest.turns;
        drains = (one.1, rest.drains);
        rings = rest.rings;
        entries = rest.entries ∙ entries_stand false old was mid by turn c good rings;
        to_control = rest.to_control ∙ control_stands false old was mid by turn c good rings;
      }
