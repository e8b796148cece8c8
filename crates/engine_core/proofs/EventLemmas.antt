-- A run goes on with each of its events.
use Rattle.std.proofs.Common.{◌≡◌, ◌≢◌, ℕ, zero, suc, ◌+◌, ◌<◌, ◌≤◌, List, [], ◌∷◌, ◌++◌, append_assoc, get_or, length, take, refl, sym, ap, ◌∙◌, arith}
use Rattle.std.specs.Prelude.{Bool, true, map}
use Rattle.std.proofs.lemmas.List.{map-append}
use Rattle.run_letters.specs.declared.event.Event.{Event}
use Rattle.run_letters.specs.Events.{letter_of}
use Rattle.ses_io.specs.Outside.{MediaOutside, SourceOutside, SinkOutside}
use Rattle.session_model.specs.declared.session.Session.{Session}
use Rattle.machine_model.specs.Letters as letter
use Rattle.machine_model.specs.Letters.{Letter, Machine, B, E, G, P, moves}
use Rattle.machine_model.specs.Events.{after}
use Rattle.worker_pair.specs.Tied.{IsTied}
use Rattle.engine_core.specs.declared.run.Run.{Run}
use Rattle.run_end.specs.Failures.{nothing_failed}
use Rattle.engine_core.specs.UnderWay.{IsUnderWay}
use Rattle.engine_core.specs.Letters.{CycleIsP, CyclesOn, EnteringIsE, EntersOn, GatheringIsG, GathersOn, TurnIsB, TurnsOn}
use Rattle.engine_core.specs.declared.engine.Engine.{Engine}
use Rattle.engine_core.specs.Going.{GoesOnBy, MayGoOn}
use Rattle.engine_core.specs.Opening.{Opening}
use Rattle.engine_core.specs.WentOn.{WentOn}
use Rattle.engine_core.proofs.GoingLemmas.{letter_goes, may_go_on}
use Rattle.engine_core.proofs.GrowLemmas.{cycle_went, enter_stays, gather_stays, stays_went, turn_stays}

-- the letters of the workers are none of control
pub b_isnt_c : B ≢ letter.C
b_isnt_c e = absurd cc

pub e_isnt_c : E ≢ letter.C
e_isnt_c e = absurd cc

pub g_isnt_c : G ≢ letter.C
g_isnt_c e = absurd cc

pub p_isnt_c : P ≢ letter.C
p_isnt_c e = absurd cc

module _ {V I C W O : Type 0} (media : MediaOutside V) (inputs : SourceOutside I) (source : SourceOutside C) (sinks : SinkOutside W) (sink : SinkOutside O) (opening : Opening V I C W O)
    (old : Engine V I C W O) (run : Run V I W) (under_way : IsUnderWay media inputs sinks opening.started run) where
  abbrev s : Session
  s = opening.started.begun.session

  abbrev now : Engine V I C W O
  now = record { run = run; control = old.control }

  -- what is so of it after a letter
  pub record IsEvent (by : Letter) : Type 0 where
    pub may : MayGoOn media inputs sinks opening.started now
    pub goes : GoesOnBy media inputs source sinks sink opening by old now

  event_by : (by : Letter) → by ≢ letter.C → MayGoOn media inputs sinks opening.started old → WentOn old.run run →
      ((m : Machine) → nothing_failed run.failed ≡ true → IsTied s m.core old.run.pair → IsTied s (after s old.run.pair.butler.cycles m.core (moves s old.run.pair.butler.cycles m by)) run.pair) → IsEvent by
  event_by by isnt_c may went ties = record {
    may = may_go_on media inputs source sinks sink opening old run went under_way may;
    goes = λ letters is. letter_goes media inputs source sinks sink opening letters by isnt_c old run went under_way ties is;
  }

  pub turn_goes : MayGoOn media inputs sinks opening.started old → (idle : Bool) → TurnsOn media opening.started old.run idle run → TurnIsB s old.run idle run → IsEvent B
  turn_goes may idle turns is_b = event_by B b_isnt_c may (stays_went old.run run (turn_stays media opening.started old.run run idle turns)) (λ m fine tied. (is_b m.core fine tied).0)

  pub enter_goes : MayGoOn media inputs sinks opening.started old → EntersOn old.run run → EnteringIsE s old.run run → IsEvent E
  enter_goes may enters is_e = event_by E e_isnt_c may (stays_went old.run run (enter_stays old.run run enters)) (λ m fine tied. is_e m.core fine tied)

  pub gather_goes : MayGoOn media inputs sinks opening.started old → GathersOn old.run run → GatheringIsG s old.run run → IsEvent G
  gather_goes may gathers is_g = event_by G g_isnt_c may (stays_went old.run run (gather_stays old.run run gathers)) (λ m fine tied. (is_g m.core fine tied).0)

  pub cycle_goes : MayGoOn media inputs sinks opening.started old → CyclesOn inputs sinks opening.started old.run run → CycleIsP s old.run run → IsEvent P
  cycle_goes may cycles is_p = event_by P p_isnt_c may (cycle_went media inputs sinks opening.started old.run run may.under_way cycles) (λ m fine tied. is_p m.core fine tied)

-- ---- one event after another

-- a list that ends there
pub taken_all : {X : Type 0} (xs : List X) (n : ℕ) → length xs ≤ n → take n xs ≡ xs
taken_all [] zero h = refl
taken_all [] (suc n) h = refl
taken_all (x ∷ xs) zero h = absurd (omega (arith, h))
taken_all (x ∷ xs) (suc n) h = ap (λ l. x ∷ l) (taken_all xs n (omega (arith, h)))

-- one item more of a list
took_more : {X : Type 0} (xs : List X) (k : ℕ) (x : X) → k < length xs → take k xs ++ get_or xs k x ∷ [] ≡ take (suc k) xs
took_more [] k x h = absurd (omega (arith, h))
took_more (y ∷ ys) zero x h = refl
took_more (y ∷ ys) (suc k) x h = ap (λ l. y ∷ l) (took_more ys k x (omega (arith, h)))

-- the letters of one event more
pub one_more : (letters : List Letter) (events : List Event) (at : ℕ) (event : Event) → at < length events →
    (letters ++ map letter_of (take at events)) ++ letter_of (get_or events at event) ∷ [] ≡ letters ++ map letter_of (take (at + 1) events)
one_more letters events at event within = append_assoc letters (map letter_of (take at events)) (letter_of (get_or events at event) ∷ [])
    ∙ ap (λ l. letters ++ l) (sym (map-append letter_of (take at events) (get_or events at event ∷ [])))
    ∙ ap (λ l. letters ++ map letter_of l) (took_more events at event within)
    ∙ (let same : suc at ≡ at + 1 = omega arith in ap (λ n. letters ++ map letter_of (take n events)) same)
