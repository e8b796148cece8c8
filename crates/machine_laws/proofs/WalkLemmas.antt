-- A run on one thread from its first letter to its last: it is the plain run.
use Rattle.std.proofs.Common.{◌≡◌, inl, inr, ℕ, ◌<◌, ◌≤◌, List, [], ◌∷◌, length, refl, sym, ap, subst, arith, ◌∙◌}
use Rattle.std.specs.Prelude.{◌⊎◌, Bool, true, false, nat_le, if◌then◌else◌, is_none, Option, Some, None}
use Rattle.std.proofs.lemmas.Bool.{and_parts, or_parts, leb-false, false≢true}
use Rattle.std.proofs.lemmas.Option.{none-some, same_Some}
use Rattle.session_model.specs.declared.session.Session.{Session}
use Rattle.engine_model.specs.Edits.{has_quit}
use Rattle.engine_model.specs.Plain.{Run, plain_run}
use Rattle.engine_model.specs.Lines.{Line, commands_of}
use Rattle.engine_model.specs.Replies.{Reply, plain_replies}
use Rattle.machine_model.specs.Core.{at_first}
use Rattle.machine_model.specs.Control.{Awaited, Entries, SettledIn, is_over, is_played_out, is_last_settled}
use Rattle.machine_model.specs.Letters.{Letter, C, B, E, Machine, begins, is_idle, by_letter, by_letters}
use Rattle.machine_model.specs.Rest.{Phase, Between, BeforeTurn, BeforeLook, BeforeEntry, Over, Carry, Play}
use Rattle.machine_model.specs.Rest.{Finish, is_finished, next_task, task_of, begin_task, next_letter, is_letter, is_next, is_rest_from}
use Rattle.machine_laws.specs.SerialRun.{SerialIsPlain}
use Rattle.machine_laws.proofs.CarryLemmas.{IsOver, carries}
use Rattle.machine_laws.proofs.EventLemmas.{stands_at_first, is_idle_track}
use Rattle.machine_laws.proofs.OwesLemmas.{run_of, next_run, Owes}
use Rattle.machine_laws.proofs.SerialStates.{NearAt, AllReceived, IsBetweenCycles, IsInCycle, enters, entered_in_cycle}
use Rattle.machine_laws.proofs.LetterLemmas.{letter_is}
use Rattle.machine_laws.proofs.OverLemmas.{over_turns, owes_waiting, owes_all, is_done}
use Rattle.machine_laws.proofs.WalkStates.{Walks, GoesTo, from_turn, from_look, from_entry}

module _ (session : Session) (cycles : ℕ) (final : Run) (all : List Reply) (deep : 0 < session.depth) (few : cycles ≤ 100000) where
  finishes : (m : Machine) → task_of cycles m ≡ Finish → IsOver session cycles final all m.control m.core → GoesTo session cycles final all Between m
  finishes m task o = by (is_idle session cycles m.core) refl
    where
      by : (idle : Bool) → is_idle session cycles m.core ≡ idle → GoesTo session cycles final all Between m
      by true is = (
        B,
        Over,
        ap (λ k. Some (begin_task (is_idle session cycles m.core) k)) task
            ∙ ap (λ b. Some (B, if b then Over else Between)) is,
        over_turns session cycles final all m.control m.core o,
      )
      by false is = (
        B,
        Between,
        ap (λ k. Some (begin_task (is_idle session cycles m.core) k)) task
            ∙ ap (λ b. Some (B, if b then Over else Between)) is,
        inr (over_turns session cycles final all m.control m.core o),
      )

  carries_on : (m : Machine) → task_of cycles m ≡ Carry → IsBetweenCycles session cycles m.core → Owes session cycles final all m.control (run_of m.core) →
      ((a : Awaited) → m.control.awaits ≡ Some a → is_over cycles m.core a ≡ true) → GoesTo session cycles final all Between m
  carries_on m task between owes over = (C, Between, ap (λ k. Some (begin_task (is_idle session cycles m.core) k)) task, carries session cycles final all m.core m.control between owes over)

  plays : (m : Machine) → task_of cycles m ≡ Play → IsBetweenCycles session cycles m.core → Owes session cycles final all m.control (next_run session (run_of m.core)) →
      length m.core.entries < cycles → GoesTo session cycles final all Between m
  plays m task between owes more = (
    E,
    BeforeTurn,
    ap (λ k. Some (begin_task (is_idle session cycles m.core) k)) task,
    subst (λ d. IsInCycle session cycles d × AllReceived d × Owes session cycles final all m.control (next_run session (run_of d))) (sym (enters session cycles m.core between more))
        (let entered = entered_in_cycle session cycles m.core between more owes.unquit in (entered.0, entered.1, owes)),
  )

  from_between : (m : Machine) → Walks session cycles final all Between m → GoesTo session cycles final all Between m
  from_between m (inr o) = finishes m (ap (λ k. next_task cycles m.core k m.control.lines) o.no_wait ∙ ap (next_task cycles m.core None) o.no_lines
      ∙ ap (λ b. if b then Finish else Play) o.finished) o
  from_between m (inl w) = by m.control.awaits m.control.lines refl refl
    where
      rested : is_finished cycles m.core ≡ false → length m.core.entries < cycles
      rested h = leb-false cycles (length m.core.entries)
          (or_parts (nat_le cycles (length m.core.entries)) (has_quit m.core.edits m.core.playing) (or_parts (has_quit m.core.edits (length m.core.edits)) (is_played_out cycles m.core) h).1).0

      waiting : (a : Awaited) → is_over cycles m.core a ≡ false → length m.core.entries < cycles
      waiting (Entries n) h = leb-false cycles (length m.core.entries)
          (or_parts (nat_le cycles (length m.core.entries)) (has_quit m.core.edits m.core.playing) (or_parts (nat_le n (length m.core.entries)) (is_played_out cycles m.core) h).1).0
      waiting (SettledIn k) h = leb-false cycles (length m.core.entries)
          (or_parts (nat_le cycles (length m.core.entries)) (has_quit m.core.edits m.core.playing) (or_parts (is_last_settled k m.core.entries) (is_played_out cycles m.core) h).1).0

      by : (awaits : Option Awaited) (lines : List Line) → m.control.awaits ≡ awaits → m.control.lines ≡ lines → GoesTo session cycles final all Between m
      by None (line ∷ lines) none some = carries_on m (ap (λ k. next_task cycles m.core k m.control.lines) none ∙ ap (next_task cycles m.core None) some) w.0 w.1
          (λ a e. absurd (none-some a (sym none ∙ e)))
      by None [] none empty = by_end (is_finished cycles m.core) refl
        where
          task : (b : Bool) → is_finished cycles m.core ≡ b → task_of cycles m ≡ (if b then Finish else Play)
          task b is = ap (λ k. next_task cycles m.core k m.control.lines) none ∙ ap (next_task cycles m.core None) empty ∙ ap (λ k. if k then Finish else Play) is

          by_end : (b : Bool) → is_finished cycles m.core ≡ b → GoesTo session cycles final all Between m
          by_end true is = finishes m (task true is) (is_done session cycles final all m.control m.core none empty is w.0 w.1)
          by_end false is = plays m (task false is) w.0 (owes_all session cycles final all m.control m.core none empty (rested is) w.1) (rested is)
      by (Some a) lines waits some = by_wait (is_over cycles m.core a) refl
        where
          task : (b : Bool) → is_over cycles m.core a ≡ b → task_of cycles m ≡ (if b then Carry else Play)
          task b is = ap (λ k. next_task cycles m.core k m.control.lines) waits ∙ ap (λ k. if k then Carry else Play) is

          by_wait : (b : Bool) → is_over cycles m.core a ≡ b → GoesTo session cycles final all Between m
          by_wait true is = carries_on m (task true is) w.0 w.1 (λ k e. subst (λ z. is_over cycles m.core z ≡ true) (same_Some a k (sym waits ∙ e)) is)
          by_wait false is = plays m (task false is) w.0 (owes_waiting session cycles final all m.control m.core a waits is w.1) (waiting a is)

  -- ---- to the end

  goes : (phase : Phase) (m : Machine) → Walks session cycles final all phase m → ((phase ≡ Over) × IsOver session cycles final all m.control m.core) ⊎ GoesTo session cycles final all phase m
  goes Between m w = inr (from_between m w)
  goes BeforeTurn m w = inr (from_turn session cycles final all deep few m w)
  goes BeforeLook m w = inr (from_look session cycles final all deep few m w)
  goes BeforeEntry m w = inr (from_entry session cycles final all deep few m w)
  goes Over m w = inl (refl, w)

  pub walks : (letters : List Letter) (phase : Phase) (m : Machine) → Walks session cycles final all phase m → is_rest_from session cycles phase m letters ≡ true →
      IsOver session cycles final all (by_letters session cycles m letters).control (by_letters session cycles m letters).core
  walks [] phase m w rest = elim (goes phase m w) [
    | inl over ↦ over.1
    | inr to ↦ absurd (false≢true (sym (ap (λ o. is_none o) to.2) ∙ rest))
  ]
  walks (letter ∷ letters) phase m w rest = elim (goes phase m w) [
    | inl over ↦ absurd (false≢true (ap (λ p. is_next letter (next_letter session cycles p m) (λ next. is_rest_from session cycles next (by_letter session cycles m letter) letters)) (sym over.0)
        ∙ rest))
    | inr to ↦ let parts = and_parts (is_letter letter to.0) (is_rest_from session cycles to.1 (by_letter session cycles m letter) letters)
        (sym (ap (λ o. is_next letter o (λ next. is_rest_from session cycles next (by_letter session cycles m letter) letters)) to.2) ∙ rest) in
        walks letters to.1 (by_letter session cycles m letter) (subst (λ l. Walks session cycles final all to.1 (by_letter session cycles m l)) (sym (letter_is letter to.0 parts.0)) to.3) parts.1
  ]

-- ---- the law

starts : (session : Session) (cycles : ℕ) → IsBetweenCycles session cycles (at_first session)
starts session cycles = record {
  serial = record {
    stands = stands_at_first session cycles;
    acks = λ g. refl;
    near = λ t x e. subst (NearAt session (at_first session)) (is_idle_track (length session.tracks.items) t x e) (record { gapless = λ s r low le there. absurd (false≢true there); free = refl });
  };
  shut = refl;
  unended = refl;
  received = λ t x e. subst (λ y. y.received ≡ length y.sent) (is_idle_track (length session.tracks.items) t x e) refl;
}

pub serial_is_plain : SerialIsPlain
serial_is_plain session cycles lines letters valid some few rest =
    let o = walks session cycles (plain_run session cycles (commands_of lines)) (plain_replies session cycles lines) (deep valid.formed.limits.depth.least) few letters Between (begins session lines)
    (inl (starts session cycles, record { unquit = refl; newest = λ k e. absurd (none-some (SettledIn k) e); run_on = refl; replies = refl })) rest in
    record { entries = ap (λ r. r.entries) o.run; edits = ap (λ r. r.edits) o.run; replies = o.replies }
  where
    deep : 2 ≤ session.depth → 0 < session.depth
    deep le = omega (arith, le)
