-- What lines have made so far, line by line.
use Rattle.std.proofs.Common.{◌≡◌, inl, inr, ℕ, List, [], ◌∷◌, ◌++◌, length, refl, sym, ap, subst, ◌∙◌, append_assoc}
use Rattle.std.specs.Prelude.{◌⊎◌, Bool, true, false, if◌then◌else◌, reverse, Some, None, Result, Ok, Err, is_ok}
use Rattle.std.proofs.lemmas.Bool.{false≢true}
use Rattle.std.proofs.lemmas.List.{reverse-append}
use Rattle.session_model.specs.declared.session.Session.{Session}
use Rattle.session_model.specs.declared.edit.Edit.{Edit}
use Rattle.engine_model.specs.Edits.{has_quit, is_quit}
use Rattle.engine_model.specs.Editions.{Edition, apply, edition}
use Rattle.engine_model.specs.Lines.{Line, Nothing, Says, Unread, LineRefusal, accepted_from, accepted_of}
use Rattle.engine_model.specs.Plain.{Do, Wait, Sync}
use Rattle.engine_model.specs.Refusals.{Checked}
use Rattle.engine_model.specs.Replies.{Reply, Accepted, AnswerEdit, AreReplies, Done, LineRefused, Refused, Synced, NotSynced}
use Rattle.machine_model.specs.Control.{Awaited, Entries, SettledIn}
use Rattle.edit_resolve.specs.declared.reason.Refusal.{Refusal}
use Rattle.edit_resolve.specs.Reason.{refusal_of}
use Rattle.machine_laws.proofs.CarryLemmas.{quit_after}
use Rattle.control_desk.specs.declared.standing.End.{End}
use Rattle.control_desk.specs.declared.standing.End.TheVariants.{NoLine, Quit, ReadFailed, WriteFailed}
use Rattle.control_desk.specs.Laws.{IsAnswer}
use Rattle.control_desk.specs.Standing as desk
use Rattle.control_desk.specs.Standing.{Awaits, Ended, Ready, after_edit, awaits_of, cut_off, is_ended}
use Rattle.control_desk.specs.Texts.{edit_reply}
use Rattle.control_letter.specs.Letter.{edits_with}
use Rattle.control_letter.specs.Shown.{shown_core, standing_by}
use Rattle.serial_laws.specs.Answered.{HasAnswered, StillToAnswer}
use Rattle.serial_laws.specs.Standing.{MayCome, Standing, carried_of}

-- control that stands so, by these edits and replies
abbrev pub at : Session → List Edit → desk.Standing → List Reply → Standing
at s edits st replies = standing_by (shown_core s edits []) st replies

-- a quit among edits with one more
pub quit_with : (edits : List Edit) (edit : Edit) → has_quit edits (length edits) ≡ false → has_quit (edits ++ edit ∷ []) (length (edits ++ edit ∷ [])) ≡ is_quit edit
quit_with edits edit unquit = quit_after edits edit ∙ ap (λ b. if is_quit edit then true else b) unquit ∙ by (is_quit edit)
  where
    by : (b : Bool) → (if b then true else false) ≡ b
    by true = refl
    by false = refl

-- ---- one line is taken

-- What control does at a line, if these follow: its edits are those that lines from here on make, and so are its replies.
pub record Does (s : Session) (edits : List Edit) (line : Line) (given : List Reply) (edits_now : List Edit) (st : desk.Standing) (more : List Line) : Type 0 where
  pub accepted : accepted_from s edits_now (carried_of (at s edits_now st given) more) ≡ accepted_from s edits (line ∷ more)
  pub replies : (later : List Reply) → StillToAnswer s (awaits_of st) edits_now (carried_of (at s edits_now st given) more) later → AreReplies s edits (line ∷ more) (reverse given ++ later)
  pub ended : has_quit edits_now (length edits_now) ≡ true → (carried_of (at s edits_now st given) more ≡ []) × (awaits_of st ≡ None)
  pub newest : (k : ℕ) → awaits_of st ≡ Some (SettledIn k) → k ≡ length edits_now

module _ (s : Session) where
  pub takes_on : (lines : List Line) (line : Line) (edits edits_now : List Edit) (st : desk.Standing) (given replies : List Reply) → HasAnswered s lines (at s edits Ready replies) →
      ((more : List Line) → MayCome (at s edits_now st given) more → Does s edits line given edits_now st more) → HasAnswered s (lines ++ line ∷ []) (at s edits_now st (given ++ replies))
  takes_on lines line edits edits_now st given replies was does more may = let h = was (line ∷ more) (λ ended. absurd (false≢true ended)) in let d = does more may in let whole = append_assoc lines (line ∷ []) more in record {
    accepted = d.accepted ∙ h.accepted ∙ ap (accepted_of s) (sym whole);
    ended = d.ended;
    newest = d.newest;
    replies = λ later still. subst (λ l. AreReplies s [] l (reverse (given ++ replies) ++ later)) (sym whole)
        (subst (AreReplies s [] (lines ++ line ∷ more)) (sym (append_assoc (reverse replies) (reverse given) later) ∙ ap (λ l. l ++ later) (sym (reverse-append given replies)))
        (h.replies (reverse given ++ later) (d.replies later still)));
  }

  -- where a write failed, or no line is left, no line counts any more
  pub cut_short : (lines : List Line) (edits : List Edit) (st : desk.Standing) (replies : List Reply) (fault : Bool) → awaits_of st ≡ None → HasAnswered s lines (at s edits st replies) →
      HasAnswered s lines (at s edits (cut_off fault st) replies)
  cut_short lines edits st replies false none was = was
  cut_short lines edits Ready replies true none was = λ more may. let h = was more (λ ended. absurd (false≢true ended)) in let over = may refl refl in record {
    accepted = ap (λ l. accepted_from s edits l) (sym over) ∙ h.accepted;
    ended = λ quit. (refl, refl);
    newest = λ k is. absurd (no_such k is);
    replies = λ later still. h.replies later (subst (λ l. AreReplies s edits l later) (sym over) still);
  }
    where
      no_such : (k : ℕ) → None ≡ Some (SettledIn k) → ⊥
      no_such k is = cc
  cut_short lines edits (Awaits a) replies true none was = absurd (some_awaited none)
    where
      some_awaited : Some a ≡ None → ⊥
      some_awaited is = cc
  cut_short lines edits (Ended why) replies true none was = was_cut why was
    where
      was_cut : (why : End) → HasAnswered s lines (at s edits (Ended why) replies) → HasAnswered s lines (at s edits (Ended (WriteFailed (desk.has_quit (Ended why)))) replies)
      was_cut NoLine h = h
      was_cut Quit h = h
      was_cut ReadFailed h = h
      was_cut (WriteFailed quit) h = h

  pub ends_here : (lines : List Line) (edits : List Edit) (why : End) (replies : List Reply) → desk.has_quit (Ended why) ≡ false → has_quit edits (length edits) ≡ false → HasAnswered s lines (at s edits Ready replies) →
      HasAnswered s lines (at s edits (Ended why) replies)
  ends_here lines edits why replies no_quit unquit was more may = let over = may refl no_quit in let h = was more (λ ended. absurd (false≢true ended)) in record {
    accepted = ap (λ l. accepted_from s edits l) (sym over) ∙ h.accepted;
    ended = λ quit. (refl, refl);
    newest = λ k is. absurd (no_such k is);
    replies = λ later still. h.replies later (subst (λ l. AreReplies s edits l later) (sym over) still);
  }
    where
      no_such : (k : ℕ) → None ≡ Some (SettledIn k) → ⊥
      no_such k is = cc

  -- ---- what was awaited is answered

  -- a reply that is one to it
  abbrev pub Answers : ℕ → Awaited → Reply → Type 0
  Answers edition (Entries n) reply = reply ≡ Done
  Answers edition (SettledIn k) reply = ((entry : ℕ) × (reply ≡ Synced k entry)) ⊎ (reply ≡ NotSynced k)

  pub answered_on : (lines : List Line) (edits : List Edit) (a : Awaited) (reply : Reply) (replies : List Reply) → Answers (length edits) a reply → HasAnswered s lines (at s edits (Awaits a) replies) →
      HasAnswered s lines (at s edits Ready (reply ∷ replies))
  answered_on lines edits a reply replies answers was more may = let h = was more (λ ended. absurd (false≢true ended)) in record {
    accepted = h.accepted;
    ended = λ quit. ((h.ended quit).0, refl);
    newest = λ k is. absurd (no_such k is);
    replies = λ later still. subst (AreReplies s [] (lines ++ more)) (sym (ap (λ l. l ++ later) (reverse-append (reply ∷ []) replies) ∙ append_assoc (reverse replies) (reply ∷ []) later))
        (h.replies (reply ∷ later) (still_to a answers h.newest later still));
  }
    where
      no_such : (k : ℕ) → None ≡ Some (SettledIn k) → ⊥
      no_such k is = cc

      still_to : (a : Awaited) → Answers (length edits) a reply → ((k : ℕ) → Some a ≡ Some (SettledIn k) → k ≡ length edits) → (later : List Reply) → AreReplies s edits more later →
          StillToAnswer s (Some a) edits more (reply ∷ later)
      still_to (Entries n) is newest later still = (later, ap (λ r. r ∷ later) is, still)
      still_to (SettledIn k) (inl synced) newest later still = subst (λ r. StillToAnswer s (Some (SettledIn k)) edits more (r ∷ later)) (sym synced.1) (newest k refl, still)
      still_to (SettledIn k) (inr not) newest later still = subst (λ r. StillToAnswer s (Some (SettledIn k)) edits more (r ∷ later)) (sym not) (newest k refl, still)

  -- ---- line by line, while no edit has quit

  module _ (edits : List Edit) (unquit : has_quit edits (length edits) ≡ false) where
    quits_not : {A : Type 0} → has_quit edits (length edits) ≡ true → A
    quits_not quit = absurd (false≢true (sym unquit ∙ quit))

    pub does_nothing : (more : List Line) → Does s edits Nothing [] edits Ready more
    does_nothing more = record { accepted = refl; replies = λ later still. still; ended = λ quit. quits_not quit; newest = λ k is. absurd cc }

    pub does_refuse : (why : LineRefusal) (more : List Line) → Does s edits (Unread why) (LineRefused why ∷ []) edits Ready more
    does_refuse why more = record { accepted = refl; replies = λ later still. (later, refl, still); ended = λ quit. quits_not quit; newest = λ k is. absurd cc }

    pub does_wait : (n : ℕ) (more : List Line) → Does s edits (Says (Wait n)) [] edits (Awaits (Entries n)) more
    does_wait n more = record { accepted = refl; replies = λ later still. still; ended = λ quit. quits_not quit; newest = λ k is. absurd cc }

    pub does_sync : (more : List Line) → Does s edits (Says Sync) [] edits (Awaits (SettledIn (length edits))) more
    does_sync more = record { accepted = refl; replies = λ later still. still; ended = λ quit. quits_not quit; newest = λ k is. cc }

    module _ (edit : Edit) (more : List Line) where
      abbrev with_it : List Edit
      with_it = edits ++ edit ∷ []

      abbrev line : Line
      line = Says (Do edit)

      -- which edits it makes, and which replies, by what the edition makes of it
      makes : (made : Checked Edition) → apply (edition s edits (length edits)) edit ≡ made →
          accepted_from s edits (line ∷ more) ≡ (if is_ok made then (if is_quit edit then with_it else accepted_from s with_it more) else accepted_from s edits more)
      makes made e = ap (λ z. if is_ok z then (if is_quit edit then with_it else accepted_from s with_it more) else accepted_from s edits more) e

      replied : (made : Checked Edition) → apply (edition s edits (length edits)) edit ≡ made → (quits : Bool) → is_quit edit ≡ quits → (replies : List Reply) →
          AnswerEdit made quits (AreReplies s with_it more) (AreReplies s edits more) replies → AreReplies s edits (line ∷ more) replies
      replied made e quits q replies h = subst (λ z. AnswerEdit z (is_quit edit) (AreReplies s with_it more) (AreReplies s edits more) replies) (sym e)
          (subst (λ b. AnswerEdit made b (AreReplies s with_it more) (AreReplies s edits more) replies) (sym q) h)

      accepts : (next : Edition) → apply (edition s edits (length edits)) edit ≡ Ok next → (k : ℕ) → next.number ≡ k → (quits : Bool) → is_quit edit ≡ quits →
          Does s edits line (Accepted k ∷ []) with_it (if quits then Ended Quit else Ready) more
      accepts next e k is true q = record {
        accepted = sym (makes (Ok next) e ∙ ap (λ b. if b then with_it else accepted_from s with_it more) q);
        replies = λ later still. replied (Ok next) e true q (Accepted k ∷ later) (later, ap (λ n. Accepted n ∷ later) (sym is), still);
        ended = λ quit. (refl, refl);
        newest = λ n none. absurd cc;
      }
      accepts next e k is false q = record {
        accepted = sym (makes (Ok next) e ∙ ap (λ b. if b then with_it else accepted_from s with_it more) q);
        replies = λ later still. replied (Ok next) e false q (Accepted k ∷ later) (later, ap (λ n. Accepted n ∷ later) (sym is), still);
        ended = λ quit. absurd (false≢true (sym q ∙ sym (quit_with edits edit unquit) ∙ quit));
        newest = λ n none. absurd cc;
      }

      by : (made : Checked Edition) → apply (edition s edits (length edits)) edit ≡ made → (answer : Result ℕ Refusal) → IsAnswer made answer → Does s edits line (edit_reply answer ∷ []) (edits_with edit answer edits) (after_edit edit answer) more
      by (Ok next) e (Ok k) is = accepts next e k is (is_quit edit) refl
      by (Err why) e (Err given) is = record {
        accepted = sym (makes (Err why) e);
        replies = λ later still. replied (Err why) e (is_quit edit) refl (Refused (refusal_of given) ∷ later) (later, ap (λ w. Refused w ∷ later) (sym is), still);
        ended = λ quit. quits_not quit;
        newest = λ n none. absurd cc;
      }
      by (Ok next) e (Err given) is = absurd is
      by (Err why) e (Ok k) is = absurd is

      pub does_edit : (answer : Result ℕ Refusal) → IsAnswer (apply (edition s edits (length edits)) edit) answer → Does s edits line (edit_reply answer ∷ []) (edits_with edit answer edits) (after_edit edit answer) more
      does_edit answer is = by (apply (edition s edits (length edits)) edit) refl answer is
