-- What control answers is what is answered to its lines, and the edits are those that they make, whatever letters come between.
use Rattle.std.proofs.Common.{◌≡◌, ℕ, suc, ◌+◌, List, [], ◌∷◌, ◌++◌, length, refl, sym, ap, subst, ◌∙◌}
use Rattle.std.specs.Prelude.{Bool, true, false, not, nat_le, if◌then◌else◌, Option, Some, None, Ok, Err, is_ok, reverse}
use Rattle.std.proofs.lemmas.Bool.{and_from, not_from_false, true≢false, false≢true}
use Rattle.std.proofs.lemmas.List.{append-nil}
use Rattle.std.proofs.lemmas.Option.{none-some}
use Rattle.session_model.specs.declared.session.Session.{Session}
use Rattle.session_model.specs.declared.edit.Edit.{Edit}
use Rattle.engine_model.specs.Edits.{has_quit, is_quit}
use Rattle.engine_model.specs.Refusals.{Checked}
use Rattle.engine_model.specs.Editions.{Edition, edition, apply}
use Rattle.engine_model.specs.Journal.{Entry}
use Rattle.engine_model.specs.Plain.{Do, Wait, Sync}
use Rattle.engine_model.specs.Lines.{Line, Nothing, Says, Unread, accepts_after, accepted_from, accepted_of}
use Rattle.engine_model.specs.Replies.{Reply, Accepted, Refused, LineRefused, Done, Synced, NotSynced, Begin, BeginSynced, AnswerEdit, AreReplies, synced_by}
use Rattle.machine_model.specs.Core.{Core}
use Rattle.machine_model.specs.Control.{Control, Awaited, Entries, SettledIn, is_over, answer_to, replying, waiting_for}
use Rattle.machine_model.specs.Control.{edit_done, line_done, published, next_line_done, next_published, control_by, published_by}
use Rattle.machine_model.specs.Events.{Publish, EnterProcess, done, step, after}
use Rattle.machine_model.specs.Letters.{Letter, C, B, E, G, P, Machine, butler_moves, gather_moves, cycle_moves, begins, by_letter, by_letters}
use Rattle.machine_laws.specs.Answers.{EditsAreThoseOfLines, RepliesAreThoseOfLines}
use Rattle.machine_laws.proofs.CarryLemmas.{quit_after}
use Rattle.machine_laws.proofs.LetterLemmas.{after_edits, butler_others, gather_others, cycle_others}
use Rattle.machine_laws.proofs.OwesLemmas.{one_reply}

-- what is still to be answered
abbrev pub Later : Session → Option Awaited → List Edit → List Line → List Reply → Type 0
Later session None edits lines later = AreReplies session edits lines later
Later session (Some (Entries n)) edits lines later = Begin Done (AreReplies session edits lines) later
Later session (Some (SettledIn k)) edits lines later = BeginSynced (length edits) (AreReplies session edits lines) later

-- What stands of control and the edits after any letters.
pub record Answers (session : Session) (all : List Line) (edits : List Edit) (control : Control) : Type 0 where
  pub accepted : accepted_from session edits control.lines ≡ accepted_of session all
  -- after a quit no line is left, and nothing is waited for
  pub ended : has_quit edits (length edits) ≡ true → (control.lines ≡ []) × (control.awaits ≡ None)
  -- a sync is in the newest edition
  pub newest : (k : ℕ) → control.awaits ≡ Some (SettledIn k) → k ≡ length edits
  pub replies : (later : List Reply) → Later session control.awaits edits control.lines later → AreReplies session [] all (reverse control.replies ++ later)

module _ (session : Session) (cycles : ℕ) (all : List Line) (c : Core) where
  abbrev free : List Line → List Reply → Control
  free lines replies = record { lines = lines; awaits = None; replies = replies }

  more : (reply : Reply) (replies later : List Reply) → AreReplies session [] all (reverse replies ++ reply ∷ later) → AreReplies session [] all (reverse (reply ∷ replies) ++ later)
  more reply replies later h = subst (AreReplies session [] all) (sym (one_reply reply replies later)) h

  -- a reply, where no edit is made
  one_more : (lines : List Line) (replies : List Reply) (reply : Reply) → (has_quit c.edits (length c.edits) ≡ true → ⊥) → accepted_from session c.edits lines ≡ accepted_of session all →
      ((later : List Reply) → AreReplies session c.edits lines later → AreReplies session [] all (reverse replies ++ reply ∷ later)) → Answers session all c.edits (free lines (reply ∷ replies))
  one_more lines replies reply unquit accepted said = record {
    accepted = accepted;
    ended = λ q. absurd (unquit q);
    newest = λ k e. absurd (none-some (SettledIn k) e);
    replies = λ later h. more reply replies later (said later h);
  }

  -- ---- an edit

  answers_edit : (lines : List Line) (replies : List Reply) (edit : Edit) (answer : Checked Edition) (quits : Bool) → apply (edition session c.edits (length c.edits)) edit ≡ answer →
      is_quit edit ≡ quits →
      has_quit c.edits (length c.edits) ≡ false →
      (if is_ok answer then (if quits then c.edits ++ edit ∷ [] else accepted_from session (c.edits ++ edit ∷ []) lines) else accepted_from session c.edits lines) ≡ accepted_of session all →
      ((later : List Reply) → AnswerEdit answer quits (AreReplies session (c.edits ++ edit ∷ []) lines) (AreReplies session c.edits lines) later →
      AreReplies session [] all (reverse replies ++ later)) →
      Answers session all (after session cycles c (if is_ok answer then Publish edit ∷ [] else [])).edits (edit_done answer quits (free lines replies))
  answers_edit lines replies edit (Err why) quits is quit unquit accepted said =
      one_more lines replies (Refused why) (λ q. true≢false (sym q ∙ unquit)) accepted (λ later h. said (Refused why ∷ later) (later, refl, h))
  answers_edit lines replies edit (Ok next) quits is quit unquit accepted said =
      subst (λ es. Answers session all es (edit_done (Ok next) quits (free lines replies))) (sym does) (by quits quit accepted said)
    where
      does : (step session cycles c (Publish edit)).edits ≡ c.edits ++ edit ∷ []
      does = ap (λ b. (if b then done session cycles c (Publish edit) else c).edits)
          (and_from (not (has_quit c.edits (length c.edits))) (accepts_after session c.edits edit) (not_from_false (has_quit c.edits (length c.edits)) unquit) (ap is_ok is))

      by : (quits : Bool) → is_quit edit ≡ quits → (if quits then c.edits ++ edit ∷ [] else accepted_from session (c.edits ++ edit ∷ []) lines) ≡ accepted_of session all →
          ((later : List Reply) → AnswerEdit (Ok next) quits (AreReplies session (c.edits ++ edit ∷ []) lines) (AreReplies session c.edits lines) later →
          AreReplies session [] all (reverse replies ++ later)) →
          Answers session all (c.edits ++ edit ∷ []) (edit_done (Ok next) quits (free lines replies))
      by true quit accepted said = record {
        accepted = accepted;
        ended = λ q. (refl, refl);
        newest = λ k e. absurd (none-some (SettledIn k) e);
        replies = λ later h. more (Accepted next.number) replies later (said (Accepted next.number ∷ later) (later, refl, h));
      }
      by false quit accepted said = record {
        accepted = accepted;
        ended = λ q. absurd (true≢false (sym q ∙ quit_after c.edits edit ∙ ap (λ b. if b then true else has_quit c.edits (length c.edits)) quit ∙ unquit));
        newest = λ k e. absurd (none-some (SettledIn k) e);
        replies = λ later h. more (Accepted next.number) replies later (said (Accepted next.number ∷ later) (later, refl, h));
      }

  -- ---- a wait

  begins_synced : (k : ℕ) (entries : List Entry) (Rest : List Reply → Type 0) (later : List Reply) → Rest later → BeginSynced k Rest (synced_by k entries ∷ later)
  begins_synced k [] Rest later h = (refl, h)
  begins_synced k (e ∷ before) Rest later h = by (nat_le k e.settled)
    where
      by : (b : Bool) → BeginSynced k Rest ((if b then Synced k (suc (length before)) else NotSynced k) ∷ later)
      by true = (refl, h)
      by false = (refl, h)

  -- what is answered to a wait begins what is still to be answered
  begins_so : (a : Awaited) (lines : List Line) (later : List Reply) → ((k : ℕ) → Some a ≡ Some (SettledIn k) → k ≡ length c.edits) → AreReplies session c.edits lines later →
      Later session (Some a) c.edits lines (answer_to c a ∷ later)
  begins_so (Entries n) lines later newest h = (later, refl, h)
  begins_so (SettledIn k) lines later newest h = subst (λ n. BeginSynced (length c.edits) (AreReplies session c.edits lines) (synced_by n c.entries ∷ later)) (sym (newest k refl))
      (begins_synced (length c.edits) c.entries (AreReplies session c.edits lines) later h)

  answers_wait : (lines : List Line) (replies : List Reply) (a : Awaited) → (has_quit c.edits (length c.edits) ≡ true → ⊥) → ((k : ℕ) → Some a ≡ Some (SettledIn k) → k ≡ length c.edits) →
      accepted_from session c.edits lines ≡ accepted_of session all → ((later : List Reply) → Later session (Some a) c.edits lines later → AreReplies session [] all (reverse replies ++ later)) →
      Answers session all c.edits (waiting_for cycles c a (free lines replies))
  answers_wait lines replies a unquit newest accepted said = by (is_over cycles c a)
    where
      by : (b : Bool) → Answers session all c.edits (if b then free lines (answer_to c a ∷ replies) else record { lines = lines; awaits = Some a; replies = replies })
      by true = one_more lines replies (answer_to c a) unquit accepted (λ later h. said (answer_to c a ∷ later) (begins_so a lines later newest h))
      by false = record { accepted = accepted; ended = λ q. absurd (unquit q); newest = newest; replies = said }

  -- ---- the next line

  answers_line : (lines : List Line) (replies : List Reply) (line : Line) → has_quit c.edits (length c.edits) ≡ false → accepted_from session c.edits (line ∷ lines) ≡ accepted_of session all →
      ((later : List Reply) → AreReplies session c.edits (line ∷ lines) later → AreReplies session [] all (reverse replies ++ later)) →
      Answers session all (after session cycles c (published session c line)).edits (line_done session cycles c (free lines replies) line)
  answers_line lines replies Nothing unquit accepted said =
      record { accepted = accepted; ended = λ q. absurd (true≢false (sym q ∙ unquit)); newest = λ k e. absurd (none-some (SettledIn k) e); replies = said }
  answers_line lines replies (Unread why) unquit accepted said =
      one_more lines replies (LineRefused why) (λ q. true≢false (sym q ∙ unquit)) accepted (λ later h. said (LineRefused why ∷ later) (later, refl, h))
  answers_line lines replies (Says (Do edit)) unquit accepted said =
      answers_edit lines replies edit (apply (edition session c.edits (length c.edits)) edit) (is_quit edit) refl refl unquit accepted said
  answers_line lines replies (Says (Wait n)) unquit accepted said =
      answers_wait lines replies (Entries (length c.entries + n)) (λ q. true≢false (sym q ∙ unquit)) (λ k e. absurd (entries_not k e)) accepted said
    where
      entries_not : (k : ℕ) → Some (Entries (length c.entries + n)) ≡ Some (SettledIn k) → ⊥
      entries_not k e = cc
  answers_line lines replies (Says Sync) unquit accepted said = answers_wait lines replies (SettledIn (length c.edits)) (λ q. true≢false (sym q ∙ unquit)) same accepted said
    where
      same : (k : ℕ) → Some (SettledIn (length c.edits)) ≡ Some (SettledIn k) → k ≡ length c.edits
      same k e = cc

  answers_next : (lines : List Line) (replies : List Reply) → Answers session all c.edits (free lines replies) →
      Answers session all (after session cycles c (next_published session c lines)).edits (next_line_done session cycles c (free lines replies) lines)
  answers_next [] replies a = a
  answers_next (line ∷ lines) replies a = answers_line lines replies line (by (has_quit c.edits (length c.edits)) refl) a.accepted a.replies
    where
      by : (b : Bool) → has_quit c.edits (length c.edits) ≡ b → has_quit c.edits (length c.edits) ≡ false
      by false e = e
      by true e = absurd (some_not (a.ended e).0)
        where
          some_not : line ∷ lines ≡ [] → ⊥
          some_not e' = cc

  -- ---- a control letter

  answers_control : (control : Control) (awaits : Option Awaited) → control.awaits ≡ awaits → Answers session all c.edits control →
      Answers session all (after session cycles c (published_by session cycles c control.lines awaits)).edits (control_by session cycles c control awaits)
  answers_control control None none a = subst (λ k. Answers session all (after session cycles c (next_published session c control.lines)).edits (next_line_done session cycles c k control.lines))
      (sym same)
      (answers_next control.lines control.replies (subst (Answers session all c.edits) same a))
    where
      same : control ≡ free control.lines control.replies
      same = ap (λ o. record control { awaits = o }) none
  answers_control control (Some w) some a = by (is_over cycles c w)
    where
      newest : (k : ℕ) → Some w ≡ Some (SettledIn k) → k ≡ length c.edits
      newest k e = a.newest k (some ∙ e)

      unquit : has_quit c.edits (length c.edits) ≡ true → ⊥
      unquit q = none-some w (sym (a.ended q).1 ∙ some)

      by : (b : Bool) → Answers session all (after session cycles c (if b then next_published session c control.lines else [])).edits
          (if b then next_line_done session cycles c (record (replying (answer_to c w) control) { awaits = None }) control.lines else control)
      by false = a
      by true = answers_next control.lines (answer_to c w ∷ control.replies) (one_more control.lines control.replies (answer_to c w) unquit a.accepted
          (λ later h. a.replies (answer_to c w ∷ later) (subst (λ o. Later session o c.edits control.lines (answer_to c w ∷ later)) (sym some) (begins_so w control.lines later newest h))))

-- ---- all letters

pub answers_letter : (session : Session) (cycles : ℕ) (all : List Line) (m : Machine) (letter : Letter) → Answers session all m.core.edits m.control →
    Answers session all (by_letter session cycles m letter).core.edits (by_letter session cycles m letter).control
answers_letter session cycles all m C a = answers_control session cycles all m.core m.control m.control.awaits refl a
answers_letter session cycles all m B a =
    subst (λ es. Answers session all es m.control) (sym (after_edits session cycles m.core (butler_moves session cycles m.core) (butler_others session cycles m.core))) a
answers_letter session cycles all m E a = subst (λ es. Answers session all es m.control) (sym (after_edits session cycles m.core (EnterProcess ∷ []) refl)) a
answers_letter session cycles all m G a =
    subst (λ es. Answers session all es m.control) (sym (after_edits session cycles m.core (gather_moves session cycles m.core) (gather_others session cycles m.core))) a
answers_letter session cycles all m P a =
    subst (λ es. Answers session all es m.control) (sym (after_edits session cycles m.core (cycle_moves session cycles m.core) (cycle_others session cycles m.core))) a

answers_letters : (session : Session) (cycles : ℕ) (all : List Line) (m : Machine) (letters : List Letter) → Answers session all m.core.edits m.control →
    Answers session all (by_letters session cycles m letters).core.edits (by_letters session cycles m letters).control
answers_letters session cycles all m [] a = a
answers_letters session cycles all m (letter ∷ letters) a = answers_letters session cycles all (by_letter session cycles m letter) letters (answers_letter session cycles all m letter a)

pub answers_at_first : (session : Session) (lines : List Line) → Answers session lines [] (begins session lines).control
answers_at_first session lines = record { accepted = refl; ended = λ q. absurd (false≢true q); newest = λ k e. absurd (none-some (SettledIn k) e); replies = λ later h. h }

pub edits_are_those_of_lines : EditsAreThoseOfLines
edits_are_those_of_lines session cycles lines letters none = let a = answers_letters session cycles lines (begins session lines) letters (answers_at_first session lines) in
    ap (accepted_from session (by_letters session cycles (begins session lines) letters).core.edits) (sym none) ∙ a.accepted

pub replies_are_those_of_lines : RepliesAreThoseOfLines
replies_are_those_of_lines session cycles lines letters none free_now = let m = by_letters session cycles (begins session lines) letters in
    let a = answers_letters session cycles lines (begins session lines) letters (answers_at_first session lines) in
    subst (AreReplies session [] lines) (append-nil (reverse m.control.replies)) (a.replies [] (subst (λ o. Later session o m.core.edits m.control.lines []) (sym free_now)
    (subst (λ l. AreReplies session m.core.edits l []) (sym none) refl)))
