-- The letter of control, by where control stood before it.
use Rattle.std.proofs.Common.{◌≡◌, ◌≢◌, inl, inr, ℕ, List, [], ◌∷◌, length, refl, sym, ap, subst, arith, ◌∙◌}
use Rattle.std.specs.Prelude.{Bool, true, false, if◌then◌else◌, Some}
use Rattle.std.proofs.lemmas.Bool.{false≢true}
use Rattle.ses_io.specs.Outside.{SourceOutside, SinkOutside}
use Rattle.session_model.specs.declared.session.Session.{Session}
use Rattle.session_model.specs.declared.edit.Edit.{Edit}
use Rattle.engine_model.specs.Edits.{has_quit}
use Rattle.engine_model.specs.Replies.{Reply}
use Rattle.machine_model.specs.Core.{Core}
use Rattle.machine_model.specs.Control.{Awaited}
use Rattle.machine_model.specs.Rest.{Carry, next_task, task_of}
use Rattle.control_desk.specs.declared.progress.Progress.{Progress}
use Rattle.control_desk.specs.declared.standing.End.TheVariants.{NoLine, WriteFailed}
use Rattle.control_desk.specs.GoesOn.{GoesOn}
use Rattle.control_desk.specs.Seen.{IsSeenOf, is_over_by, reply_by}
use Rattle.control_desk.specs.State.{ControlState}
use Rattle.control_desk.specs.Standing.{Awaits, Ended, Ready, Standing, after_due, cut_off, due, is_ended, is_ready}
use Rattle.control_desk.specs.Steps.{Replies}
use Rattle.serial_laws.specs.Leads.{Carries}
use Rattle.serial_laws.specs.Standing.{machine_of}
use Rattle.control_letter.specs.Letter.{DoesLetter, IsLetter, TheLetterIsDone}
use Rattle.control_letter.specs.Shown.{standing_by}
use Rattle.control_letter.proofs.FrontLemmas.{ended_carries, over_front, ready_front, stays_put, waiting_carries}
use Rattle.control_letter.proofs.LineLemmas.{end_carries}
use Rattle.control_letter.proofs.LetterLemmas as letters
use Rattle.control_letter.proofs.LetterLemmas.{stands_quiet}
use Rattle.control_letter.proofs.TakenLemmas.{takes}

module _ {C O : Type 0} (source : SourceOutside C) (sink : SinkOutside O) (s : Session) (seen : Progress) (edits edits_now : List Edit) (old new : ControlState C O)
    (unquit : is_ended old.standing ≡ false → has_quit edits (length edits) ≡ false) (letter : IsLetter source sink s seen edits old edits_now new) where
  abbrev Does : Type 0
  Does = DoesLetter source sink s seen edits old edits_now new

  abbrev mid : ControlState C O
  mid = letter.answered

  -- as where control stands says it
  abbrev Answers : List Reply → Standing → Type 0
  Answers replies st = Replies sink replies st old mid × GoesOn source sink old [] replies mid

  answers_at : (st : Standing) → old.standing ≡ st → Answers (due seen st) (after_due seen st)
  answers_at st is = subst (λ z. Answers (due seen z) (after_due seen z)) is (letter.replies, letter.goes)

  -- nothing is done, and where control stood it stands
  idle : (st : Standing) → old.standing ≡ st → is_ready st ≡ false → Answers [] st → ((k : ℕ) (c : Core) (replies : List Reply) → IsSeenOf k c seen → Carries s k (standing_by c st replies) [] (standing_by c st replies)) → Does
  idle st was not a carries = letters.quiet source sink s seen edits edits_now old new st st was (ap (λ z. z.standing) stops.1 ∙ stands) stops.0
      (λ reading e. false≢true (sym reading ∙ ap is_ended e)) (λ reading. unquit (ap is_ended was ∙ reading))
      (subst (GoesOn source sink old [] []) (sym stops.1) a.1) carries (λ c replies. stays_put s 0 c st replies)
    where
      stands : mid.standing ≡ st
      stands = stands_quiet sink st old mid a.0

      stops : (edits_now ≡ edits) × (new ≡ mid)
      stops = letter.stops (ap is_ready stands ∙ not)

  -- its reply isn't written
  cut : (awaited : Awaited) → old.standing ≡ Awaits awaited → is_over_by seen awaited ≡ true → GoesOn source sink old [] (reply_by seen awaited ∷ []) mid → mid.standing ≡ Ended (WriteFailed false) → Does
  cut awaited was over goes stands = record {
    taken = [];
    given = reply_by seen awaited ∷ [];
    one = omega arith;
    last = λ reading ended tells. absurd (otherwise (sym (ap (λ z. z.standing) stops.1 ∙ stands) ∙ ended));
    goes = subst (GoesOn source sink old [] (reply_by seen awaited ∷ [])) (sym stops.1) goes;
    carries = λ k c replies is_seen same. letters.carries_by source sink s seen edits edits_now old new (Awaits awaited) (Ended (WriteFailed false)) c.edits was (ap (λ z. z.standing) stops.1 ∙ stands) (stops.0 ∙ sym same)
        k c replies (reply_by seen awaited ∷ []) [] (end_carries s k c (Awaits awaited) (reply_by seen awaited ∷ []) (over_front s k c seen is_seen awaited over) (WriteFailed false) replies refl);
    due_or_not = λ k c replies is_seen same. inl (λ more may. ap (λ z. task_of k (machine_of (standing_by c z replies) more)) was ∙ is_due k c is_seen more);
    unquit = λ reading. absurd (false≢true (sym reading ∙ ap (λ z. is_ended z.standing) stops.1 ∙ ap is_ended stands));
  }
    where
      stops : (edits_now ≡ edits) × (new ≡ mid)
      stops = letter.stops (ap is_ready stands)

      otherwise : Ended (WriteFailed false) ≢ Ended NoLine
      otherwise e = absurd cc

      is_due : (k : ℕ) (c : Core) → IsSeenOf k c seen → (more : List _) → next_task k c (Some awaited) more ≡ Carry
      is_due k c is_seen more = elim (over_front s k c seen is_seen awaited over).at_end [
        | inl none ↦ absurd cc
        | inr is ↦ is more
      ]

  by_standing : (st : Standing) → old.standing ≡ st → Does
  by_standing (Ended why) was = idle (Ended why) was refl (answers_at (Ended why) was) (λ k c replies is_seen. ended_carries s k c why replies)
  by_standing Ready was = let a = answers_at Ready was in let ready = stands_quiet sink Ready old mid a.0 in
      takes source sink s seen edits edits_now old mid new Ready [] was refl (unquit (ap is_ended was)) refl a.1 (λ k c is_seen. ready_front s k c) ready (letter.goes_on (ap is_ready ready))
  by_standing (Awaits awaited) was = by (is_over_by seen awaited) refl (answers_at (Awaits awaited) was)
    where
      over : is_over_by seen awaited ≡ true → Answers (reply_by seen awaited ∷ []) Ready → Does
      over is a = by_fault a.0.fault refl
        where
          stands : (b : Bool) → a.0.fault ≡ b → mid.standing ≡ cut_off b Ready
          stands b e = ap (λ z. z.standing) a.0.state ∙ ap (λ b. cut_off b Ready) e

          by_fault : (b : Bool) → a.0.fault ≡ b → Does
          by_fault true e = cut awaited was is a.1 (stands true e)
          by_fault false e = takes source sink s seen edits edits_now old mid new (Awaits awaited) (reply_by seen awaited ∷ []) was refl (unquit (ap is_ended was)) refl a.1
              (λ k c is_seen. over_front s k c seen is_seen awaited is) (stands false e) (letter.goes_on (ap is_ready (stands false e)))

      by : (b : Bool) → is_over_by seen awaited ≡ b → Answers (if b then reply_by seen awaited ∷ [] else []) (if b then Ready else Awaits awaited) → Does
      by true is a = over is a
      by false is a = idle (Awaits awaited) was refl a (λ k c replies is_seen. waiting_carries s k c seen is_seen awaited replies is)

pub the_letter_is_done : {C O : Type 0} (source : SourceOutside C) (sink : SinkOutside O) → TheLetterIsDone source sink
the_letter_is_done source sink s seen edits edits_now old new unquit letter = by_standing source sink s seen edits edits_now old new unquit letter old.standing refl
