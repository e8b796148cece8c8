-- What each call of control does, as its contract has it.
use Rattle.std.proofs.Common.{inl, inr, ◌≡◌, ℕ, refl, ap, ◌∙◌, sym, subst, List, [], ◌∷◌}
use Rattle.std.specs.Prelude.{Bool, true, false, if◌then◌else◌, Option, Some, None, Result}
use Rattle.ses_io.specs.Outside.{SourceOutside, SinkOutside}
use Rattle.session_model.specs.declared.edit.Edit.{Edit}
use Rattle.engine_model.specs.Lines.{Line}
use Rattle.machine_model.specs.Control.{Awaited}
use Rattle.edit_script.specs.Reading.{Read, line_of}
use Rattle.edit_script.specs.declared.command.Command.{Command}
use Rattle.edit_resolve.specs.declared.reason.Refusal.{Refusal}
use Rattle.control_lines.specs.Lines.{LinesState}
use Rattle.control_desk.specs.declared.progress.Progress.{Progress}
use Rattle.control_desk.specs.declared.standing.End.{End}
use Rattle.control_desk.specs.declared.standing.End.TheVariants.{NoLine, ReadFailed}
use Rattle.control_desk.specs.Seen.{is_over_by, replies_by, replies_to, edit_of, wait_of}
use Rattle.control_desk.specs.Texts.{edit_reply}
use Rattle.control_desk.specs.Standing.{Standing, Ready, Awaits, Ended, is_ready, is_ended, read_failed, write_failed, awaiting, due, after_due, cut_off}
use Rattle.control_desk.specs.State.{ControlState}
use Rattle.control_desk.specs.Steps.{heard, PutsOut, Replies, EndsBy, CarriesOut}
use Rattle.control_desk.specs.GoesOn.{GoesOn}
use Rattle.control_desk.specs.Taking.{LeavesLines, TakesNext, TakesNone}
use Rattle.control_desk.proofs.ControlLemmas.{ready_open, goes_nowhere, goes_by_line, goes_by_reply, goes_by_end}

calm : (seen : Progress) (awaited : Option Awaited) → (read_failed (awaiting seen awaited) ≡ false) × (write_failed (awaiting seen awaited) ≡ false)
calm seen None = (refl, refl)
calm seen (Some awaited) = go (is_over_by seen awaited)
  where
    go : (b : Bool) → (read_failed (if b then Ready else Awaits awaited) ≡ false) × (write_failed (if b then Ready else Awaits awaited) ≡ false)
    go true = (refl, refl)
    go false = (refl, refl)

module _ {C O : Type 0} (source : SourceOutside C) (sink : SinkOutside O) where
  -- an edit was answered
  pub goes_by_edit : (old new : ControlState C O) (answer is : Result ℕ Refusal) (standing : Standing) → is_ready old.standing ≡ true → answer ≡ is → Replies sink (edit_reply is ∷ []) standing old new →
      read_failed standing ≡ false → write_failed standing ≡ false → GoesOn source sink old [] (edit_reply answer ∷ []) new
  goes_by_edit old new answer is standing ready same replies no_read no_write = subst (λ a. GoesOn source sink old [] (edit_reply a ∷ []) new) (sym same)
      (goes_by_reply source sink old (edit_reply is ∷ []) standing new (ready_open old.standing ready) replies no_read no_write)

  settled_by : (seen : Progress) (old new : ControlState C O) (standing : Standing) → old.standing ≡ standing → Replies sink (due seen standing) (after_due seen standing) old new →
      GoesOn source sink old [] (due seen standing) new
  settled_by seen old new Ready is replies = goes_by_reply source sink old [] Ready new (ap is_ended is) replies refl refl
  settled_by seen old new (Awaits awaited) is replies = let c = calm seen (Some awaited) in
      goes_by_reply source sink old (replies_by seen awaited) (awaiting seen (Some awaited)) new (ap is_ended is) replies c.0 c.1
  settled_by seen old new (Ended why) is replies = subst (λ (n : ControlState C O). GoesOn source sink old [] [] n) (sym (unchanged replies)) (goes_nowhere source sink old)
    where
      put_none : (script : Option (List Line)) (out : O) (fault : Bool) → PutsOut sink (heard script []) old.out out fault → (out ≡ old.out) × (fault ≡ false)
      put_none None out fault puts = puts
      put_none (Some lines) out fault puts = puts

      unchanged : Replies sink [] (Ended why) old new → new ≡ old
      unchanged r = let p = put_none old.script new.out r.fault r.out in
          r.state ∙ ap (λ o. record old { out = o; standing = cut_off r.fault (Ended why) }) p.0 ∙ ap (λ f. record old { standing = cut_off f (Ended why) }) p.1
          ∙ ap (λ s. record old { standing = s }) (sym is)

  -- what was awaited was answered, where that was over
  pub goes_by_due : (seen : Progress) (old new : ControlState C O) → Replies sink (due seen old.standing) (after_due seen old.standing) old new → GoesOn source sink old [] (due seen old.standing) new
  goes_by_due seen old new replies = settled_by seen old new old.standing refl replies

  -- a line was carried out
  pub carried : (seen : Progress) (old mid new : ControlState C O) (answer : Read Command) (given : Option Edit) → is_ready old.standing ≡ true → TakesNext source old (Some answer) mid →
      given ≡ edit_of (line_of answer) → Replies sink (replies_to seen (line_of answer)) (awaiting seen (wait_of seen (line_of answer))) mid new → CarriesOut source sink seen old given new
  carried seen old mid new answer given ready takes gives replies = let line = line_of answer in let c = calm seen (wait_of seen line) in inl record {
    line = line;
    legal = takes.legal;
    is_given = gives;
    replies = subst (λ (m : ControlState C O). Replies sink (replies_to seen line) (awaiting seen (wait_of seen line)) m new)
        (takes.state ∙ ap (λ (x : ControlState C O). record old { lines = x.lines; script = x.script }) (sym replies.state)) replies;
    goes = goes_by_line source sink old (line ∷ []) (replies_to seen line) mid.lines mid.script (awaiting seen (wait_of seen line)) new (ready_open old.standing ready) takes.lines
        (subst (λ (m : ControlState C O). Replies sink (replies_to seen line) (awaiting seen (wait_of seen line)) m new) takes.state replies) c.0 c.1;
  }

  -- no line was taken of a script, and it stands as it did
  same_script : (a b : LinesState C) (fault : Bool) (s t : Option (List Line)) → LeavesLines source [] a b fault s t → t ≡ s
  same_script a b fault None None leaves = refl
  same_script a b fault (Some s) (Some t) leaves = ap Some (sym leaves.0)
  same_script a b fault None (Some t) leaves = absurd leaves
  same_script a b fault (Some s) None leaves = absurd leaves

  ends_by : (why : End) (old now : ControlState C O) → is_ready old.standing ≡ true → now ≡ record old { lines = now.lines; script = now.script } →
      LeavesLines source [] old.lines now.lines (read_failed (Ended why)) old.script now.script → write_failed (Ended why) ≡ false → EndsBy source sink why old None (record now { standing = Ended why })
  ends_by why old now ready state leaves no_write = record {
    none = refl;
    state = ended ∙ ap (λ s. record old { lines = now.lines; script = s; standing = Ended why }) (same_script old.lines now.lines (read_failed (Ended why)) old.script now.script leaves);
    goes = subst (λ (n : ControlState C O). GoesOn source sink old [] [] n) (sym ended)
        (goes_by_end source sink old now.lines now.script why (ready_open old.standing ready) leaves no_write);
  }
    where
      ended : record now { standing = Ended why } ≡ record old { lines = now.lines; script = now.script; standing = Ended why }
      ended = ap (λ (x : ControlState C O). record x { standing = Ended why }) state

  -- no line is left
  pub ended : (seen : Progress) (old now mid : ControlState C O) → now ≡ mid → is_ready old.standing ≡ true → TakesNext source old None mid →
      CarriesOut source sink seen old None (record now { standing = Ended NoLine })
  ended seen old now mid same ready takes = let t = subst (λ (m : ControlState C O). TakesNext source old None m) (sym same) takes in
      inr (inl record { ends = ends_by NoLine old now ready t.state t.lines refl; last = t.last refl })

  -- a read failed
  pub faulted : (seen : Progress) (old now mid : ControlState C O) → now ≡ mid → is_ready old.standing ≡ true → TakesNone source old mid →
      CarriesOut source sink seen old None (record now { standing = Ended ReadFailed })
  faulted seen old now mid same ready takes = let t = subst (λ (m : ControlState C O). TakesNone source old m) (sym same) takes in
      inr (inr (ends_by ReadFailed old now ready t.state t.lines refl))
