-- Where a run on one thread stands, phase by phase, and how it goes on within a cycle.
use Rattle.std.proofs.Common.{◌≡◌, inl, ℕ, ◌<◌, ◌≤◌, List, length, refl, sym, ap, subst, ◌∙◌}
use Rattle.std.specs.Prelude.{if◌then◌else◌, is_none, Option, Some, None}
use Rattle.session_model.specs.declared.session.Session.{Session}
use Rattle.engine_model.specs.Plain.{Run}
use Rattle.engine_model.specs.Replies.{Reply}
use Rattle.machine_model.specs.Core.{Core}
use Rattle.machine_model.specs.Events.{Event, step, after}
use Rattle.machine_model.specs.Letters.{Letter, B, G, P, Machine, first_move, gather_moves, cycle_moves, by_letter}
use Rattle.machine_model.specs.Rest.{Phase, Between, BeforeTurn, BeforeLook, BeforeEntry, Over, next_letter}
use Rattle.machine_laws.specs.Stands.{Stands}
use Rattle.machine_laws.proofs.CarryLemmas.{IsOver, GoesOn}
use Rattle.machine_laws.proofs.CycleEndLemmas.{cycle_plays}
use Rattle.machine_laws.proofs.CycleLemmas.{looked_up, all_free}
use Rattle.machine_laws.proofs.EventLemmas.{every_list_on}
use Rattle.machine_laws.proofs.GatherLemmas.{gathered, gather_all}
use Rattle.machine_laws.proofs.IdleLemmas.{idle_is_ready}
use Rattle.machine_laws.proofs.OwesLemmas.{run_of, next_run, Owes}
use Rattle.machine_laws.proofs.SerialStates.{NearAt, AllReceived, IsInCycle, IsReadyCycle}
use Rattle.machine_laws.proofs.SerialTurns.{moves_so, moved_leaves, moved_in_cycle, turned, turn_makes, idle_is}
use Rattle.machine_laws.proofs.Tracks.{each_mapped}
use Rattle.machine_laws.proofs.TurnLemmas.{begun_turn}

-- ---- a look-up

pub looked_in_cycle : (session : Session) (cycles : ℕ) (c : Core) → IsInCycle session cycles c → c.entered ≡ length c.edits →
    (after session cycles c (gather_moves session cycles c) ≡ looked_up c) × IsInCycle session cycles (looked_up c) × AllReceived (looked_up c)
looked_in_cycle session cycles c i entered = (
  does,
  record {
    serial = record {
      stands = subst (Stands session cycles) does (every_list_on session cycles c (gather_moves session cycles c) i.serial.stands);
      acks = i.serial.acks;
      near = each_mapped (λ t x. NearAt session c x) gathered c.tracks i.serial.near;
    };
    under_way = i.under_way;
    newest = i.newest;
    untaken = each_mapped (λ t x. x.taking ≡ None) gathered c.tracks i.untaken;
  },
  each_mapped (λ t x. x.received ≡ length x.sent) gathered c.tracks (λ t x e. refl),
)
  where
    does : after session cycles c (gather_moves session cycles c) ≡ looked_up c
    does = gather_all session cycles c i.under_way (all_free session cycles c i entered)

-- ---- where a run stands

abbrev pub Walks : Session → ℕ → Run → List Reply → Phase → Machine → Type 0
Walks session cycles final all Between m = GoesOn session cycles final all m.control m.core
Walks session cycles final all BeforeTurn m = IsInCycle session cycles m.core × AllReceived m.core × Owes session cycles final all m.control (next_run session (run_of m.core))
Walks session cycles final all BeforeLook m = IsInCycle session cycles m.core × (m.core.entered ≡ length m.core.edits) × Owes session cycles final all m.control (next_run session (run_of m.core))
Walks session cycles final all BeforeEntry m = IsReadyCycle session cycles m.core × Owes session cycles final all m.control (next_run session (run_of m.core))
Walks session cycles final all Over m = IsOver session cycles final all m.control m.core

-- the next letter, and where the run stands after it
abbrev pub GoesTo : Session → ℕ → Run → List Reply → Phase → Machine → Type 0
GoesTo session cycles final all phase m =
    (letter : Letter) × (next : Phase) × (next_letter session cycles phase m ≡ Some (letter, next)) × Walks session cycles final all next (by_letter session cycles m letter)

pub same_run : (a b : Run) → a.edits ≡ b.edits → a.entries ≡ b.entries → a ≡ b
same_run a b e f = ap (λ es. record a { edits = es }) e ∙ ap (λ es. record b { entries = es }) f

-- ---- within a cycle

module _ (session : Session) (cycles : ℕ) (final : Run) (all : List Reply) (deep : 0 < session.depth) (few : cycles ≤ 100000) where
  pub from_turn : (m : Machine) → Walks session cycles final all BeforeTurn m → GoesTo session cycles final all BeforeTurn m
  from_turn m w = by (first_move session cycles (begun_turn m.core)) refl
    where
      by : (o : Option Event) → first_move session cycles (begun_turn m.core) ≡ o → GoesTo session cycles final all BeforeTurn m
      by None is = (
        B,
        BeforeEntry,
        ap (λ b. Some (B, if b then BeforeEntry else BeforeLook)) (idle_is session cycles m.core w.0.serial.stands ∙ ap (λ o. is_none o) is),
        subst (λ d. IsReadyCycle session cycles d × Owes session cycles final all m.control (next_run session (run_of d)))
            (sym (turn_makes session cycles m.core w.0.serial.stands ∙ ap (turned session cycles m.core) is)) (idle_is_ready session cycles m.core deep few w.0 w.1 is, w.2),
      )
      by (Some event) is = let moved = moved_in_cycle session cycles m.core event deep (moves_so session cycles (begun_turn m.core) event is) w.0 in
          let left = moved_leaves session cycles (begun_turn m.core) event (moves_so session cycles (begun_turn m.core) event is) in (
            B,
            BeforeLook,
            ap (λ b. Some (B, if b then BeforeEntry else BeforeLook)) (idle_is session cycles m.core w.0.serial.stands ∙ ap (λ o. is_none o) is),
            subst (λ d. IsInCycle session cycles d × (d.entered ≡ length d.edits) × Owes session cycles final all m.control (next_run session (run_of d)))
                (sym (turn_makes session cycles m.core w.0.serial.stands ∙ ap (turned session cycles m.core) is)) (
                  moved.0,
                  moved.1,
                  subst (λ r. Owes session cycles final all m.control (next_run session r))
                      (sym (same_run (run_of (step session cycles (begun_turn m.core) event)) (run_of m.core) left.edits left.entries)) w.2,
                ),
          )

  pub from_look : (m : Machine) → Walks session cycles final all BeforeLook m → GoesTo session cycles final all BeforeLook m
  from_look m w = let looked = looked_in_cycle session cycles m.core w.0 w.1 in
      (G, BeforeTurn, refl, subst (λ d. IsInCycle session cycles d × AllReceived d × Owes session cycles final all m.control (next_run session (run_of d))) (sym looked.0) (looked.1, looked.2, w.2))

  pub from_entry : (m : Machine) → Walks session cycles final all BeforeEntry m → GoesTo session cycles final all BeforeEntry m
  from_entry m w = let played = cycle_plays session cycles m.core deep w.0 in (
    P,
    Between,
    refl,
    inl (
      played.between,
      subst (Owes session cycles final all m.control)
          (sym (same_run (run_of (after session cycles m.core (cycle_moves session cycles m.core))) (next_run session (run_of m.core)) played.edits played.entries)) w.1,
    ),
  )
