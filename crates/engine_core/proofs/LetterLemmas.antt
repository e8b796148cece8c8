-- Control's calls on a run put together: its letter.
use Rattle.std.proofs.Common.{◌≡◌, List, [], ◌∷◌, refl, sym, subst, ◌∙◌}
use Rattle.std.specs.Prelude.{ℕ, Bool, true, false, Some, None, Result}
use Rattle.std.proofs.lemmas.Bool.{false≢true}
use Rattle.ses_io.specs.Outside.{MediaOutside, SourceOutside, SinkOutside}
use Rattle.session_model.specs.declared.session.Session.{Session}
use Rattle.session_model.specs.declared.edit.Edit.{Edit}
use Rattle.edit_resolve.specs.declared.reason.Refusal.{Refusal}
use Rattle.edition_log.specs.EditionState.{EditionState, IsEditionOf, IsOpen}
use Rattle.edition_log.specs.Steps.{Applies}
use Rattle.control_desk.specs.declared.progress.Progress.{Progress}
use Rattle.control_desk.specs.GoesOn.{GoesOn}
use Rattle.control_desk.specs.State.{ControlState}
use Rattle.control_desk.specs.Standing.{after_due, after_edit, due, is_ready}
use Rattle.control_desk.specs.Steps.{CarriesOut, Replies}
use Rattle.control_desk.specs.Texts.{edit_reply}
use Rattle.control_letter.specs.Letter.{IsLetter}
use Rattle.control_letter.proofs.WholeLemmas.{the_letter_is_done}
use Rattle.worker_pair.specs.Never.{starts_recording}
use Rattle.engine_core.specs.declared.run.Run.{Run}
use Rattle.run_end.specs.Started.{Started}
use Rattle.engine_core.specs.UnderWay.{IsUnderWay}
use Rattle.engine_core.specs.Carrying.{MayCarry}
use Rattle.engine_core.specs.Shows.{edits_of}
use Rattle.control_letter.proofs.PublishLemmas.{edits_are, is_answer, is_open}
use Rattle.engine_core.proofs.CarryLemmas.{gives_edit, had_not_ended, may_carry_on, starts_none}

module _ {C O : Type 0} (source : SourceOutside C) (sink : SinkOutside O) (s : Session) where
  -- What control answered before its next line.
  pub record Answered (seen : Progress) (old mid : ControlState C O) : Type 0 where
    pub replies : Replies sink (due seen old.standing) (after_due seen old.standing) old mid
    pub goes : GoesOn source sink old [] (due seen old.standing) mid

  module _ (shown seen : Progress) (same : shown ≡ seen) (edits : List Edit) (old mid : ControlState C O) (answered : Answered shown old mid) where
    -- no line follows
    pub waits : is_ready mid.standing ≡ false → IsLetter source sink s seen edits old edits mid
    waits not = subst (λ z. IsLetter source sink s z edits old edits mid) same record {
      answered = mid;
      replies = answered.replies;
      goes = answered.goes;
      stops = λ stopped. (refl, refl);
      goes_on = λ ready. absurd (false≢true (sym not ∙ ready));
    }

    -- one follows that is no edit, or none can be had
    pub says : is_ready mid.standing ≡ true → (new : ControlState C O) → CarriesOut source sink shown mid None new → IsLetter source sink s seen edits old edits new
    says ready new carries = subst (λ z. IsLetter source sink s z edits old edits new) same record {
      answered = mid;
      replies = answered.replies;
      goes = answered.goes;
      stops = λ stopped. absurd (false≢true (sym stopped ∙ ready));
      goes_on = λ goes. record { given = None; taken = new; carries = carries; finishes = (refl, refl) };
    }

    -- an edit follows, and is published
    module _ (ready : is_ready mid.standing ≡ true) (edit : Edit) (taken : ControlState C O) (carries : CarriesOut source sink shown mid (Some edit) taken) where
      pub publishes : (e f : EditionState) (answer : Result ℕ Refusal) (new : ControlState C O) → e.edits ≡ edits → IsEditionOf s e → Applies e edit answer f →
          Replies sink (edit_reply answer ∷ []) (after_edit edit answer) taken new → GoesOn source sink taken [] (edit_reply answer ∷ []) new → IsLetter source sink s seen edits old f.edits new
      publishes e f answer new are is applies replies goes = subst (λ l. IsLetter source sink s seen l old f.edits new) are (subst (λ z. IsLetter source sink s z e.edits old f.edits new) same record {
        answered = mid;
        replies = answered.replies;
        goes = answered.goes;
        stops = λ stopped. absurd (false≢true (sym stopped ∙ ready));
        goes_on = λ on. record {
          given = Some edit;
          taken = taken;
          carries = carries;
          finishes = record { answer = answer; is_answer = is_answer s e f edit answer is applies; edits_are = edits_are e f edit answer applies; replies = replies; goes = goes };
        };
      })

      -- which it may be
      pub may_publish : {V I W : Type 0} (media : MediaOutside V) (inputs : SourceOutside I) (sinks : SinkOutside W) (on : Started V I W) (r : Run V I W) → on.begun.session ≡ s → IsUnderWay media inputs sinks on r →
          (records : Bool) → MayCarry records (edits_of r) old → IsOpen r.pair.edition × (records ≡ false → starts_recording edit ≡ false)
      may_publish media inputs sinks on r same_session is records may = (
        is_open on.begun.session r.pair.edition is.rests.serves.edition_of is.rests.entered.newest_not_ended (may.unquit (had_not_ended source sink (due shown old.standing) old mid answered.goes ready)),
        starts_none source sink records (edits_of r) (due shown old.standing) old mid taken edit may answered.goes (gives_edit source sink shown mid edit taken carries),
      )

  -- after its letter control may carry out the next
  pub may_again : (records : Bool) (seen : Progress) (edits edits_now : List Edit) (old new : ControlState C O) → MayCarry records edits old → IsLetter source sink s seen edits old edits_now new →
      MayCarry records edits_now new
  may_again records seen edits edits_now old new may letter =
      may_carry_on source sink s records seen edits edits_now old new may letter (the_letter_is_done source sink s seen edits edits_now old new may.unquit letter)
