-- Control has ended by a quit exactly where an edit has quit.
use Rattle.std.proofs.Common.{◌≡◌, inl, inr, ℕ, List, length, refl, sym, ap, ◌∙◌}
use Rattle.std.proofs.lemmas.Bool.{false≢true}
use Rattle.std.specs.Prelude.{Bool, true, false, if◌then◌else◌, Option, Some, None, Result, Ok, Err}
use Rattle.ses_io.specs.Outside.{SourceOutside, SinkOutside}
use Rattle.session_model.specs.declared.session.Session.{Session}
use Rattle.session_model.specs.declared.edit.Edit.{Edit}
use Rattle.engine_model.specs.Edits.{has_quit, is_quit}
use Rattle.engine_model.specs.Replies.{Reply}
use Rattle.machine_model.specs.Control.{Awaited}
use Rattle.machine_laws.proofs.CarryLemmas.{quit_after}
use Rattle.edit_resolve.specs.declared.reason.Refusal.{Refusal}
use Rattle.control_desk.specs.declared.progress.Progress.{Progress}
use Rattle.control_desk.specs.declared.standing.End.TheVariants.{Quit}
use Rattle.control_desk.specs.Seen.{is_over_by, wait_of}
use Rattle.control_desk.specs.Standing as desk
use Rattle.control_desk.specs.Standing.{Standing, Ready, Awaits, Ended, after_due, after_edit, awaiting, cut_off, is_ready}
use Rattle.control_desk.specs.State.{ControlState}
use Rattle.control_desk.specs.Steps.{CarriesOut, Replies}
use Rattle.control_letter.specs.Letter.{Finishes, IsLetter, edits_with}
use Rattle.control_letter.proofs.PublishLemmas.{edit_quits, quit_cut}

-- nothing that is awaited is a quit,
awaiting_none : (seen : Progress) (awaited : Option Awaited) → desk.has_quit (awaiting seen awaited) ≡ false
awaiting_none seen None = refl
awaiting_none seen (Some a) = by (is_over_by seen a)
  where
    by : (b : Bool) → desk.has_quit (if b then Ready else Awaits a) ≡ false
    by true = refl
    by false = refl

-- and no answer to it
quit_due : (seen : Progress) (st : Standing) → desk.has_quit (after_due seen st) ≡ desk.has_quit st
quit_due seen Ready = refl
quit_due seen (Awaits a) = awaiting_none seen (Some a)
quit_due seen (Ended why) = refl

module _ {C O : Type 0} (source : SourceOutside C) (sink : SinkOutside O) where
  quit_replied : (replies : List Reply) (st : Standing) (old new : ControlState C O) → Replies sink replies st old new → desk.has_quit new.standing ≡ desk.has_quit st
  quit_replied replies st old new r = ap (λ (c : ControlState C O). desk.has_quit c.standing) r.state ∙ quit_cut r.fault st

  -- a line that is read is none yet,
  none_carried : (seen : Progress) (old : ControlState C O) (given : Option Edit) (new : ControlState C O) → CarriesOut source sink seen old given new → desk.has_quit new.standing ≡ false
  none_carried seen old given new (inl c) = quit_replied _ (awaiting seen (wait_of seen c.line)) _ new c.replies ∙ awaiting_none seen (wait_of seen c.line)
  none_carried seen old given new (inr (inl last)) = ap (λ (c : ControlState C O). desk.has_quit c.standing) last.ends.state
  none_carried seen old given new (inr (inr failed)) = ap (λ (c : ControlState C O). desk.has_quit c.standing) failed.state

  finished : (s : Session) (edits : List Edit) (given : Option Edit) (taken : ControlState C O) (edits_now : List Edit) (new : ControlState C O) → desk.has_quit taken.standing ≡ false →
      has_quit edits (length edits) ≡ false → Finishes source sink s edits given taken edits_now new → desk.has_quit new.standing ≡ has_quit edits_now (length edits_now)
  finished s edits None taken edits_now new none unquit f =
      ap (λ (c : ControlState C O). desk.has_quit c.standing) f.1 ∙ none ∙ sym unquit ∙ sym (ap (λ l. has_quit l (length l)) f.0)
  finished s edits (Some edit) taken edits_now new none unquit p = quit_replied _ (after_edit edit p.answer) taken new p.replies ∙ edit_quits edits edit p.answer unquit
      ∙ sym (ap (λ l. has_quit l (length l)) p.edits_are)

  -- **A letter of control keeps it so.**
  pub quits_so : (s : Session) (seen : Progress) (edits edits_now : List Edit) (old new : ControlState C O) → desk.has_quit old.standing ≡ has_quit edits (length edits) →
      IsLetter source sink s seen edits old edits_now new → desk.has_quit new.standing ≡ has_quit edits_now (length edits_now)
  quits_so s seen edits edits_now old new was letter = by (is_ready letter.answered.standing) refl
    where
      answered : desk.has_quit letter.answered.standing ≡ has_quit edits (length edits)
      answered = quit_replied _ (after_due seen old.standing) old letter.answered letter.replies ∙ quit_due seen old.standing ∙ was

      -- control that is ready has no quit
      ready_none : (st : Standing) → is_ready st ≡ true → desk.has_quit st ≡ false
      ready_none Ready e = refl
      ready_none (Awaits a) e = refl
      ready_none (Ended why) e = absurd (false≢true e)

      by : (b : Bool) → is_ready letter.answered.standing ≡ b → desk.has_quit new.standing ≡ has_quit edits_now (length edits_now)
      by false e = let stays = letter.stops e in
          ap (λ (c : ControlState C O). desk.has_quit c.standing) stays.1 ∙ answered ∙ sym (ap (λ l. has_quit l (length l)) stays.0)
      by true e = let line = letter.goes_on e in
          finished s edits line.given line.taken edits_now new (none_carried seen letter.answered line.given line.taken line.carries)
          (sym answered ∙ ready_none letter.answered.standing e) line.finishes
