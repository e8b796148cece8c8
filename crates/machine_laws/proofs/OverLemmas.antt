-- What a run on one thread owes after one cycle more, and when it owes nothing.
use Rattle.std.proofs.Common.{◌≡◌, inl, inr, ℕ, ◌<◌, List, [], ◌∷◌, ◌++◌, length, refl, sym, ap, subst, ◌∙◌}
use Rattle.std.specs.Prelude.{◌⊎◌, true, false, ◌||◌, nat_le, Option, Some, None, reverse}
use Rattle.std.proofs.lemmas.Bool.{or_cases, true≢false}
use Rattle.std.proofs.lemmas.List.{append-nil}
use Rattle.session_model.specs.declared.session.Session.{Session}
use Rattle.engine_model.specs.Edits.{has_quit}
use Rattle.engine_model.specs.Plain.{Run, with_cycles, plain_from}
use Rattle.engine_model.specs.Lines.{commands_of}
use Rattle.engine_model.specs.Replies.{Reply, synced_by, plain_replies_from}
use Rattle.machine_model.specs.Core.{Core}
use Rattle.machine_model.specs.Events.{Event, step, after}
use Rattle.machine_model.specs.Control.{Control, Awaited, Entries, SettledIn, is_over, is_played_out}
use Rattle.machine_model.specs.Letters.{first_move, butler_moves}
use Rattle.machine_model.specs.Rest.{is_finished}
use Rattle.machine_laws.specs.Stands.{Stands}
use Rattle.machine_laws.proofs.CarryLemmas.{IsOver}
use Rattle.machine_laws.proofs.EventLemmas.{every_list_on}
use Rattle.machine_laws.proofs.OwesLemmas.{run_of, next_run, waited, answered, Owes, all_played, waits_on, plays_on}
use Rattle.machine_laws.proofs.SerialStates.{IsBetweenCycles}
use Rattle.machine_laws.proofs.SerialTurns.{moves_so, moved_leaves, turned, turn_makes}
use Rattle.machine_laws.proofs.WalkStates.{same_run}
use Rattle.machine_laws.proofs.TurnLemmas.{begun_turn}

module _ (session : Session) (cycles : ℕ) (final : Run) (all : List Reply) where
  over_left : (control : Control) (c d : Core) → d.edits ≡ c.edits → d.entries ≡ c.entries → d.playing ≡ c.playing → Stands session cycles d → IsOver session cycles final all control c →
      IsOver session cycles final all control d
  over_left control c d e f g stands o = record {
    stands = stands;
    no_lines = o.no_lines;
    no_wait = o.no_wait;
    finished = ap (λ es. has_quit es (length es) || (nat_le cycles (length d.entries) || has_quit es d.playing)) e
        ∙ ap (λ es. has_quit c.edits (length c.edits) || (nat_le cycles (length es) || has_quit c.edits d.playing)) f
        ∙ ap (λ p. has_quit c.edits (length c.edits) || (nat_le cycles (length c.entries) || has_quit c.edits p)) g ∙ o.finished;
    run = same_run (run_of d) (run_of c) e f ∙ o.run;
    replies = o.replies;
  }

  -- the last turns change nothing of it
  pub over_turns : (control : Control) (c : Core) → IsOver session cycles final all control c → IsOver session cycles final all control (after session cycles c (butler_moves session cycles c))
  over_turns control c o = subst (IsOver session cycles final all control) (sym does)
      (by (first_move session cycles (begun_turn c)) refl (subst (Stands session cycles) does (every_list_on session cycles c (butler_moves session cycles c) o.stands)))
    where
      does : after session cycles c (butler_moves session cycles c) ≡ turned session cycles c (first_move session cycles (begun_turn c))
      does = turn_makes session cycles c o.stands

      by : (found : Option Event) → first_move session cycles (begun_turn c) ≡ found → Stands session cycles (turned session cycles c found) →
          IsOver session cycles final all control (turned session cycles c found)
      by None is stands = over_left control c (begun_turn c) refl refl refl stands o
      by (Some event) is stands = let left = moved_leaves session cycles (begun_turn c) event (moves_so session cycles (begun_turn c) event is) in
          over_left control c (step session cycles (begun_turn c) event) left.edits left.entries left.playing stands o

  -- what is waited for, where it isn't over, asks one cycle more
  pub owes_waiting : (control : Control) (c : Core) (a : Awaited) → control.awaits ≡ Some a → is_over cycles c a ≡ false → Owes session cycles final all control (run_of c) →
      Owes session cycles final all control (next_run session (run_of c))
  owes_waiting control c a waits still owes = record {
    unquit = owes.unquit;
    newest = owes.newest;
    run_on = ap (λ o. plain_from session cycles (waited session cycles o (next_run session (run_of c))) (commands_of control.lines)) waits
        ∙ ap (λ r. plain_from session cycles r (commands_of control.lines)) (sym same)
        ∙ ap (λ o. plain_from session cycles (waited session cycles o (run_of c)) (commands_of control.lines)) (sym waits) ∙ owes.run_on;
    replies = ap (λ o. reverse control.replies ++
        (answered session cycles o (next_run session (run_of c)) ++ plain_replies_from session cycles (waited session cycles o (next_run session (run_of c))) control.lines)) waits
        ∙ ap (λ r. reverse control.replies ++ (answered session cycles (Some a) (next_run session (run_of c)) ++ plain_replies_from session cycles r control.lines)) (sym same)
        ∙ ap (λ l. reverse control.replies ++ (l ++ plain_replies_from session cycles (waited session cycles (Some a) (run_of c)) control.lines)) (sym (same_answer a same))
        ∙ ap (λ o. reverse control.replies ++ (answered session cycles o (run_of c) ++ plain_replies_from session cycles (waited session cycles o (run_of c)) control.lines)) (sym waits)
        ∙ owes.replies;
  }
    where
      same : waited session cycles (Some a) (run_of c) ≡ waited session cycles (Some a) (next_run session (run_of c))
      same = waits_on session cycles c a (λ k e. owes.newest k (waits ∙ e)) still

      same_answer : (a : Awaited) → waited session cycles (Some a) (run_of c) ≡ waited session cycles (Some a) (next_run session (run_of c)) →
          answered session cycles (Some a) (run_of c) ≡ answered session cycles (Some a) (next_run session (run_of c))
      same_answer (Entries n) e = refl
      same_answer (SettledIn k) e = ap (λ r. synced_by k r.entries ∷ []) e

  -- where no line is left, all cycles are owed
  pub owes_all : (control : Control) (c : Core) → control.awaits ≡ None → control.lines ≡ [] → length c.entries < cycles → Owes session cycles final all control (run_of c) →
      Owes session cycles final all control (next_run session (run_of c))
  owes_all control c none no_lines more owes = record {
    unquit = owes.unquit;
    newest = owes.newest;
    run_on = both (next_run session (run_of c)) ∙ sym (plays_on session cycles (run_of c) more) ∙ sym (both (run_of c)) ∙ owes.run_on;
    replies = said (next_run session (run_of c)) ∙ sym (said (run_of c)) ∙ owes.replies;
  }
    where
      both : (run : Run) → plain_from session cycles (waited session cycles control.awaits run) (commands_of control.lines) ≡ with_cycles session cycles cycles run
      both run = ap (λ o. plain_from session cycles (waited session cycles o run) (commands_of control.lines)) none ∙ ap (λ l. plain_from session cycles run (commands_of l)) no_lines

      said : (run : Run) → reverse control.replies ++ (answered session cycles control.awaits run ++ plain_replies_from session cycles (waited session cycles control.awaits run) control.lines) ≡
          reverse control.replies ++ []
      said run = ap (λ o. reverse control.replies ++ (answered session cycles o run ++ plain_replies_from session cycles (waited session cycles o run) control.lines)) none
          ∙ ap (λ l. reverse control.replies ++ plain_replies_from session cycles run l) no_lines

  -- and where no cycle is left either, the run is over
  pub is_done : (control : Control) (c : Core) → control.awaits ≡ None → control.lines ≡ [] → is_finished cycles c ≡ true → IsBetweenCycles session cycles c →
      Owes session cycles final all control (run_of c) → IsOver session cycles final all control c
  is_done control c none no_lines finished between owes = record {
    stands = between.serial.stands;
    no_lines = no_lines;
    no_wait = none;
    finished = finished;
    run = sym (all_played session cycles cycles c between.unended (out (or_cases (has_quit c.edits (length c.edits)) (is_played_out cycles c) finished)))
        ∙ sym (ap (λ o. plain_from session cycles (waited session cycles o (run_of c)) (commands_of control.lines)) none ∙ ap (λ l. plain_from session cycles (run_of c) (commands_of l)) no_lines)
        ∙ owes.run_on;
    replies = sym (append-nil (reverse control.replies))
        ∙ sym (ap (λ o. reverse control.replies ++ (answered session cycles o (run_of c) ++ plain_replies_from session cycles (waited session cycles o (run_of c)) control.lines)) none
        ∙ ap (λ l. reverse control.replies ++ plain_replies_from session cycles (run_of c) l) no_lines) ∙ owes.replies;
  }
    where
      out : ((has_quit c.edits (length c.edits) ≡ true) ⊎ (is_played_out cycles c ≡ true)) → is_played_out cycles c ≡ true
      out (inl q) = absurd (true≢false (sym q ∙ owes.unquit))
      out (inr h) = h
