-- A cycle of a run is the letter P of the core machine, also where none is open and nothing is made.
use Rattle.std.proofs.Common.{◌≡◌, [], ◌∷◌, ◌++◌, refl, sym, ap, subst, ◌∙◌}
use Rattle.std.specs.Prelude.{true, false, ◌||◌, not, if◌then◌else◌, map, filter, Result, Ok, Err}
use Rattle.std.proofs.lemmas.Bool.{false≢true, or_right}
use Rattle.session_model.specs.declared.session.Session.{Session}
use Rattle.machine_model.specs.Events.{ToButler, ToControl, Capture, End, AckSend, after, is_recorded}
use Rattle.machine_model.specs.Letters.{ends_cycle, gather_moves, track_places}
use Rattle.machine_laws.proofs.EventLists.{after_append}
use Rattle.process_cycle.specs.declared.fault.CycleFault.{CycleFault}
use Rattle.process_cycle.specs.declared.fault.CycleFault.TheVariants.{InputFault, MasterFault}
use Rattle.worker_pair.specs.declared.pair.Pair.{Pair}
use Rattle.worker_pair.specs.Steps.{EndsAsMachine}
use Rattle.worker_pair.specs.Tied.{IsTied}
use Rattle.run_end.specs.declared.failures.Failures.{Failures}
use Rattle.engine_core.specs.declared.run.Run.{Run}
use Rattle.run_end.specs.Failures.{after_cycle}
use Rattle.engine_core.specs.Letters.{CycleIsP, GatheringIsG, GathersOn}
use Rattle.engine_core.proofs.GatherLemmas.{cycles_gathered}

module _ {V I W : Type 0} (s : Session) (old gathered : Run V I W) (gathers : GathersOn old gathered) (letter : GatheringIsG s old gathered) where
  -- where no cycle is open, it is the letter P too
  pub cycles_shut : gathered.pair.in_cycle ≡ false → CycleIsP s old gathered
  cycles_shut shut = λ c fine tied. let cycles = old.pair.butler.cycles in let moves = gather_moves s cycles c in let d = after s cycles c moves in let now = (letter c fine tied).0 in
      subst (λ z. IsTied s z gathered.pair) (sym (after_append s cycles c moves (ends_cycle s d)
      ∙ ap (λ b. after s cycles d (if b then map Capture (filter (is_recorded s d) (track_places d)) ++ End ∷ AckSend ToButler ∷ AckSend ToControl ∷ [] else [])) (now.in_cycle ∙ shut))) now

  -- and where one is open, with the cycle,
  open_by : gathered.pair.in_cycle ≡ true → (new : Pair V I W) (answer : Result (Unit {0}) CycleFault) → EndsAsMachine s gathered.pair answer new →
      CycleIsP s old (record { pair = new; failed = after_cycle answer gathered.failed })
  open_by opens new (Ok x) ends = λ c fine tied. let cycles = old.pair.butler.cycles in let moves = gather_moves s cycles c in let d = after s cycles c moves in let now = letter c fine tied in
      subst (λ z. IsTied s z new) (sym (after_append s cycles c moves (ends_cycle s d)))
      (subst (λ n. IsTied s (after s n d (ends_cycle s d)) new) (cycles_gathered old gathered gathers) (ends d now.0 (now.1 (now.0.in_cycle ∙ opens))))
  open_by opens new (Err InputFault) ends = λ c fine tied. absurd (false≢true fine)
  open_by opens new (Err MasterFault) ends = λ c fine tied.
      absurd (false≢true (sym (ap (λ b. not (b || gathered.failed.read || gathered.failed.write)) (or_right gathered.failed.input true refl)) ∙ fine))

  -- by what failed of it
  pub cycles_open : gathered.pair.in_cycle ≡ true → (new : Pair V I W) (answer : Result (Unit {0}) CycleFault) (failed : Failures) → failed ≡ after_cycle answer gathered.failed →
      EndsAsMachine s gathered.pair answer new → CycleIsP s old (record { pair = new; failed = failed })
  cycles_open opens new answer failed same ends = subst (λ (f : Failures). CycleIsP s old (record { pair = new; failed = f })) (sym same) (open_by opens new answer ends)
