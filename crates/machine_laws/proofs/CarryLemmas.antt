-- Control carries out its next line, in a run on one thread, as the plain run does.
use Rattle.std.proofs.Common.{◌≡◌, inl, inr, ℕ, ◌+◌, ◌-◌, List, [], ◌∷◌, ◌++◌, length, refl, sym, ap, subst, arith, ◌∙◌}
use Rattle.std.specs.Prelude.{◌⊎◌, Bool, true, false, not, if◌then◌else◌, Option, Some, None, Ok, Err, is_ok, reverse}
use Rattle.std.proofs.lemmas.Bool.{and_from, or_left, not_from_false, false≢true}
use Rattle.std.proofs.lemmas.List.{append-nil}
use Rattle.std.proofs.lemmas.Option.{none-some}
use Rattle.session_model.specs.declared.session.Session.{Session}
use Rattle.session_model.specs.declared.edit.Edit.{Edit}
use Rattle.engine_model.specs.Edits.{has_quit, is_quit}
use Rattle.engine_model.specs.Refusals.{Checked}
use Rattle.engine_model.specs.Editions.{Edition, edition, apply}
use Rattle.engine_model.specs.Plain.{Do, Wait, Sync, Run, with_cycles, with_edit, plain_from}
use Rattle.engine_model.specs.Lines.{Line, Nothing, Says, Unread, commands_of, accepts_after}
use Rattle.engine_model.specs.Replies.{Reply, Accepted, Refused, LineRefused, Done, edit_answered, plain_replies_from}
use Rattle.engine_laws.proofs.EditionLemmas.{one_longer, quit_stays}
use Rattle.engine_laws.proofs.PlainLemmas.{held_at_the_end}
use Rattle.machine_model.specs.Core.{Core}
use Rattle.machine_model.specs.Events.{Publish, can, done, step, after}
use Rattle.machine_model.specs.Control.{Control, Awaited, Entries, SettledIn, is_over, is_played_out, answer_to, replying, waiting_for}
use Rattle.machine_model.specs.Control.{edit_done, line_done, published, next_line_done, next_published, control_by, published_by, control_done, control_moves}
use Rattle.machine_model.specs.Rest.{is_finished}
use Rattle.machine_laws.specs.Stands.{Stands}
use Rattle.machine_laws.proofs.EventLemmas.{every_event}
use Rattle.machine_laws.proofs.OwesLemmas.{run_of, waited, answered, Owes, over_is, answers_so, one_reply}
use Rattle.machine_laws.proofs.SerialStates.{IsBetweenCycles, published_between}

-- A run that has come to its end: no line is left, and no cycle can begin.
pub record IsOver (session : Session) (cycles : ℕ) (final : Run) (all : List Reply) (control : Control) (c : Core) : Type 0 where
  pub stands : Stands session cycles c
  pub no_lines : control.lines ≡ []
  pub no_wait : control.awaits ≡ None
  pub finished : is_finished cycles c ≡ true
  pub run : run_of c ≡ final
  pub replies : reverse control.replies ≡ all

abbrev pub GoesOn : Session → ℕ → Run → List Reply → Control → Core → Type 0
GoesOn session cycles final all control c = (IsBetweenCycles session cycles c × Owes session cycles final all control (run_of c)) ⊎ IsOver session cycles final all control c

-- ---- an edit

pub quit_after : (edits : List Edit) (e : Edit) → has_quit (edits ++ e ∷ []) (length (edits ++ e ∷ [])) ≡ (if is_quit e then true else has_quit edits (length edits))
quit_after edits e = ap (has_quit (edits ++ e ∷ [])) (one_longer edits e) ∙ ap (λ b. if b then true else has_quit (edits ++ e ∷ []) (length edits)) (held_at_the_end is_quit edits e)
    ∙ ap (λ b. if is_quit e then true else b) (quit_stays edits (e ∷ []) (length edits) (omega arith))

module _ (session : Session) (cycles : ℕ) (final : Run) (all : List Reply) (c : Core) (between : IsBetweenCycles session cycles c) (unquit : has_quit c.edits (length c.edits) ≡ false) where
  -- control with no wait, these lines and replies
  abbrev free : List Line → List Reply → Control
  free lines replies = record { lines = lines; awaits = None; replies = replies }

  owes_on : (lines : List Line) (replies : List Reply) → plain_from session cycles (run_of c) (commands_of lines) ≡ final →
      reverse replies ++ plain_replies_from session cycles (run_of c) lines ≡ all →
      GoesOn session cycles final all (free lines replies) c
  owes_on lines replies run said = inl (between, record { unquit = unquit; newest = λ k e. absurd (none-some (SettledIn k) e); run_on = run; replies = said })

  carries_edit : (lines : List Line) (replies : List Reply) (edit : Edit) (answer : Checked Edition) (quits : Bool) → apply (edition session c.edits (length c.edits)) edit ≡ answer →
      is_quit edit ≡ quits →
      (if is_ok answer then (if quits then with_edit (run_of c) edit else plain_from session cycles (with_edit (run_of c) edit) (commands_of lines)) else plain_from session cycles (run_of c)
      (commands_of lines)) ≡ final →
      reverse replies ++ edit_answered answer (if quits then [] else plain_replies_from session cycles (with_edit (run_of c) edit) lines) (plain_replies_from session cycles (run_of c) lines) ≡ all →
      GoesOn session cycles final all (edit_done answer quits (free lines replies)) (after session cycles c (if is_ok answer then Publish edit ∷ [] else []))
  carries_edit lines replies edit (Err why) quits is quit run said =
      owes_on lines (Refused why ∷ replies) run (one_reply (Refused why) replies (plain_replies_from session cycles (run_of c) lines) ∙ said)
  carries_edit lines replies edit (Ok next) quits is quit run said = by quits quit run said
    where
      may : can session cycles c (Publish edit) ≡ true
      may = and_from (not (has_quit c.edits (length c.edits))) (accepts_after session c.edits edit) (not_from_false (has_quit c.edits (length c.edits)) unquit) (ap is_ok is)

      does : step session cycles c (Publish edit) ≡ record c { edits = c.edits ++ edit ∷ [] }
      does = ap (λ b. if b then done session cycles c (Publish edit) else c) may

      by : (quits : Bool) → is_quit edit ≡ quits → (if quits then with_edit (run_of c) edit else plain_from session cycles (with_edit (run_of c) edit) (commands_of lines)) ≡ final →
          reverse replies ++ Accepted next.number ∷ (if quits then [] else plain_replies_from session cycles (with_edit (run_of c) edit) lines) ≡ all →
          GoesOn session cycles final all (edit_done (Ok next) quits (free lines replies)) (step session cycles c (Publish edit))
      by true quit run said = subst (GoesOn session cycles final all (edit_done (Ok next) true (free lines replies))) (sym does) (inr (record {
        stands = subst (Stands session cycles) does (every_event session cycles c (Publish edit) between.serial.stands);
        no_lines = refl;
        no_wait = refl;
        finished = or_left (has_quit (c.edits ++ edit ∷ []) (length (c.edits ++ edit ∷ []))) (is_played_out cycles (record c { edits = c.edits ++ edit ∷ [] }))
            (quit_after c.edits edit ∙ ap (λ b. if b then true else has_quit c.edits (length c.edits)) quit);
        run = run;
        replies = sym (append-nil (reverse (Accepted next.number ∷ replies))) ∙ one_reply (Accepted next.number) replies [] ∙ said;
      }))
      by false quit run said = subst (GoesOn session cycles final all (edit_done (Ok next) false (free lines replies))) (sym does) (inl (
        published_between session cycles c edit between may,
        record {
          unquit = quit_after c.edits edit ∙ ap (λ b. if b then true else has_quit c.edits (length c.edits)) quit ∙ unquit;
          newest = λ k e. absurd (none-some (SettledIn k) e);
          run_on = run;
          replies = one_reply (Accepted next.number) replies (plain_replies_from session cycles (with_edit (run_of c) edit) lines) ∙ said;
        },
      ))

  -- ---- a wait

  carries_wait : (lines : List Line) (replies : List Reply) (a : Awaited) → ((k : ℕ) → Some a ≡ Some (SettledIn k) → k ≡ length c.edits) →
      plain_from session cycles (waited session cycles (Some a) (run_of c)) (commands_of lines) ≡ final →
      reverse replies ++ (answered session cycles (Some a) (run_of c) ++ plain_replies_from session cycles (waited session cycles (Some a) (run_of c)) lines) ≡ all →
      GoesOn session cycles final all (waiting_for cycles c a (free lines replies)) c
  carries_wait lines replies a newest run said = by (is_over cycles c a) refl
    where
      by : (b : Bool) → is_over cycles c a ≡ b → GoesOn session cycles final all (if b then free lines (answer_to c a ∷ replies) else record { lines = lines; awaits = Some a; replies = replies }) c
      by false waits = inl (between, record { unquit = unquit; newest = newest; run_on = run; replies = said })
      by true over = let same = over_is session cycles c a between.unended newest over in owes_on lines (answer_to c a ∷ replies)
          (ap (λ r. plain_from session cycles r (commands_of lines)) (sym same) ∙ run)
          (one_reply (answer_to c a) replies (plain_replies_from session cycles (run_of c) lines)
          ∙ ap (λ r. reverse replies ++ (answer_to c a ∷ [] ++ plain_replies_from session cycles r lines)) (sym same)
          ∙ ap (λ l. reverse replies ++ (l ++ plain_replies_from session cycles (waited session cycles (Some a) (run_of c)) lines)) (sym (answers_so session cycles c a same)) ∙ said)

  -- ---- the next line

  carries_line : (lines : List Line) (replies : List Reply) (line : Line) → plain_from session cycles (run_of c) (commands_of (line ∷ lines)) ≡ final →
      reverse replies ++ plain_replies_from session cycles (run_of c) (line ∷ lines) ≡ all →
      GoesOn session cycles final all (line_done session cycles c (free lines replies) line) (after session cycles c (published session c line))
  carries_line lines replies Nothing run said = owes_on lines replies run said
  carries_line lines replies (Unread why) run said = owes_on lines (LineRefused why ∷ replies) run (one_reply (LineRefused why) replies (plain_replies_from session cycles (run_of c) lines) ∙ said)
  carries_line lines replies (Says (Do edit)) run said = carries_edit lines replies edit (apply (edition session c.edits (length c.edits)) edit) (is_quit edit) refl refl run said
  carries_line lines replies (Says (Wait n)) run said = carries_wait lines replies (Entries (length c.entries + n)) (λ k e. absurd (entries_not k e))
      (ap (λ j. plain_from session cycles (with_cycles session cycles j (run_of c)) (commands_of lines)) (back (length c.entries)) ∙ run)
      (ap (λ j. reverse replies ++ Done ∷ plain_replies_from session cycles (with_cycles session cycles j (run_of c)) lines) (back (length c.entries)) ∙ said)
    where
      entries_not : (k : ℕ) → Some (Entries (length c.entries + n)) ≡ Some (SettledIn k) → ⊥
      entries_not k e = cc

      back : (l : ℕ) → l + n - l ≡ n
      back l = omega arith
  carries_line lines replies (Says Sync) run said = carries_wait lines replies (SettledIn (length c.edits)) same run said
    where
      same : (k : ℕ) → Some (SettledIn (length c.edits)) ≡ Some (SettledIn k) → k ≡ length c.edits
      same k e = cc

  carries_next : (lines : List Line) (replies : List Reply) → plain_from session cycles (run_of c) (commands_of lines) ≡ final →
      reverse replies ++ plain_replies_from session cycles (run_of c) lines ≡ all →
      GoesOn session cycles final all (next_line_done session cycles c (free lines replies) lines) (after session cycles c (next_published session c lines))
  carries_next [] replies run said = owes_on [] replies run said
  carries_next (line ∷ lines) replies run said = carries_line lines replies line run said

  -- ---- a control letter

  carries_by : (control : Control) (awaits : Option Awaited) → control.awaits ≡ awaits → Owes session cycles final all control (run_of c) →
      ((a : Awaited) → awaits ≡ Some a → is_over cycles c a ≡ true) →
      GoesOn session cycles final all (control_by session cycles c control awaits) (after session cycles c (published_by session cycles c control.lines awaits))
  carries_by control None free_now owes over =
      subst (λ k. GoesOn session cycles final all (next_line_done session cycles c k control.lines) (after session cycles c (next_published session c control.lines)))
      (ap (λ o. record control { awaits = o }) (sym free_now))
      (carries_next control.lines control.replies (ap (λ o. plain_from session cycles (waited session cycles o (run_of c)) (commands_of control.lines)) (sym free_now) ∙ owes.run_on)
      (ap (λ o. reverse control.replies ++ (answered session cycles o (run_of c) ++ plain_replies_from session cycles (waited session cycles o (run_of c)) control.lines)) (sym free_now)
      ∙ owes.replies))
  carries_by control (Some a) waits owes over = ap_over (is_over cycles c a) (over a refl)
    where
      newest : (k : ℕ) → Some a ≡ Some (SettledIn k) → k ≡ length c.edits
      newest k e = owes.newest k (waits ∙ e)

      same : waited session cycles (Some a) (run_of c) ≡ run_of c
      same = over_is session cycles c a between.unended newest (over a refl)

      run : plain_from session cycles (run_of c) (commands_of control.lines) ≡ final
      run = ap (λ r. plain_from session cycles r (commands_of control.lines)) (sym same)
          ∙ ap (λ o. plain_from session cycles (waited session cycles o (run_of c)) (commands_of control.lines)) (sym waits) ∙ owes.run_on

      said : reverse (answer_to c a ∷ control.replies) ++ plain_replies_from session cycles (run_of c) control.lines ≡ all
      said = one_reply (answer_to c a) control.replies (plain_replies_from session cycles (run_of c) control.lines)
          ∙ ap (λ r. reverse control.replies ++ (answer_to c a ∷ [] ++ plain_replies_from session cycles r control.lines)) (sym same)
          ∙ ap (λ l. reverse control.replies ++ (l ++ plain_replies_from session cycles (waited session cycles (Some a) (run_of c)) control.lines)) (sym (answers_so session cycles c a same))
          ∙ ap (λ o. reverse control.replies ++ (answered session cycles o (run_of c) ++ plain_replies_from session cycles (waited session cycles o (run_of c)) control.lines)) (sym waits)
          ∙ owes.replies

      ap_over : (b : Bool) → b ≡ true → GoesOn session cycles final all
          (if b then next_line_done session cycles c (record (replying (answer_to c a) control) { awaits = None }) control.lines else control)
          (after session cycles c (if b then next_published session c control.lines else []))
      ap_over true e = carries_next control.lines (answer_to c a ∷ control.replies) run said
      ap_over false e = absurd (false≢true e)

-- a control letter, where what is waited for is over, goes on as the plain run does
pub carries : (session : Session) (cycles : ℕ) (final : Run) (all : List Reply) (c : Core) (control : Control) → IsBetweenCycles session cycles c → Owes session cycles final all control (run_of c) →
    ((a : Awaited) → control.awaits ≡ Some a → is_over cycles c a ≡ true) →
    GoesOn session cycles final all (control_done session cycles c control) (after session cycles c (control_moves session cycles c control))
carries session cycles final all c control between owes over = carries_by session cycles final all c between owes.unquit control control.awaits refl owes over
