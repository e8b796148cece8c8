-- A letter of control that is due leaves it less to take.
use Rattle.std.proofs.Common.{◌≡◌, inl, inr, ℕ, ◌+◌, ◌<◌, ◌≤◌, List, [], ◌∷◌, length, refl, sym, ap, subst, arith, ◌∙◌, length-append}
use Rattle.std.specs.Prelude.{Bool, true, false, if◌then◌else◌, Option, Some, None}
use Rattle.std.proofs.lemmas.Bool.{false≢true}
use Rattle.std.proofs.lemmas.Option.{none-some}
use Rattle.ses_io.specs.Outside.{SourceOutside, SinkOutside}
use Rattle.session_model.specs.declared.session.Session.{Session}
use Rattle.session_model.specs.declared.edit.Edit.{Edit}
use Rattle.engine_model.specs.Lines.{Line}
use Rattle.engine_model.specs.Replies.{Reply}
use Rattle.control_desk.specs.declared.progress.Progress.{Progress}
use Rattle.control_desk.specs.declared.standing.End.{End}
use Rattle.control_desk.specs.GoesOn.{GoesOn, Passes}
use Rattle.control_desk.specs.State.{ControlState}
use Rattle.control_desk.specs.Standing.{Awaits, Ended, Ready, Standing, after_due, cut_off, is_ended, is_ready}
use Rattle.control_desk.specs.Steps.{CarriesOut, EndsBy}
use Rattle.control_letter.specs.Letter.{Finishes, IsLetter, TakesALine}
use Rattle.engine_core.specs.Due.{is_line_due}
use Rattle.engine_core.specs.Left.{control_left, lines_to_take}

-- where a line is due control hasn't ended, and is ready once it has answered
due_is_open : (seen : Progress) (st : Standing) → is_line_due seen st ≡ true → is_ended st ≡ false
due_is_open seen Ready due = refl
due_is_open seen (Awaits awaited) due = refl
due_is_open seen (Ended why) due = absurd (false≢true due)

due_is_ready : (seen : Progress) (st : Standing) → is_line_due seen st ≡ true → after_due seen st ≡ Ready
due_is_ready seen Ready due = refl
due_is_ready seen (Awaits awaited) due = ap (λ b. if b then Ready else Awaits awaited) due
due_is_ready seen (Ended why) due = absurd (false≢true due)

module _ {C O : Type 0} (source : SourceOutside C) (sink : SinkOutside O) where
  abbrev to_take : ControlState C O → ℕ
  to_take c = lines_to_take c.lines c.script

  -- the lines that were taken were to be taken before
  fewer_by : (xs : List Line) (us : List Reply) (a b : ControlState C O) (s t : Option (List Line)) → Passes source sink a xs us b s t → lines_to_take b.lines t + length xs ≤ lines_to_take a.lines s
  fewer_by xs us a b None None passes = omega (arith, passes.0.some, passes.0.takes.allowed, length-append passes.0.bytes passes.0.lost)
  fewer_by xs us a b (Some s) (Some t) passes = omega (arith, ap length passes.0, length-append xs t)
  fewer_by xs us a b None (Some t) passes = absurd passes
  fewer_by xs us a b (Some s) None passes = absurd passes

  fewer : (xs : List Line) (us : List Reply) (a b : ControlState C O) → GoesOn source sink a xs us b → to_take b + length xs ≤ to_take a
  fewer xs us a b goes = fewer_by xs us a b a.script b.script goes.passes

  -- a line less leaves less,
  less_by_line : (old new : ControlState C O) → is_ended old.standing ≡ false → to_take new + 1 ≤ to_take old → control_left new < control_left old
  less_by_line old new reads less = subst (λ b. control_left new < to_take old + (if b then 0 else 1)) (sym reads) (by (is_ended new.standing))
    where
      by : (b : Bool) → to_take new + (if b then 0 else 1) < to_take old + 1
      by true = omega (arith, less)
      by false = omega (arith, less)

  -- and so does its end
  less_by_end : (old new : ControlState C O) → is_ended old.standing ≡ false → is_ended new.standing ≡ true → to_take new ≤ to_take old → control_left new < control_left old
  less_by_end old new reads ends few = subst (λ b. control_left new < to_take old + (if b then 0 else 1)) (sym reads)
      (subst (λ b. to_take new + (if b then 0 else 1) < to_take old + 1) (sym ends) (omega (arith, few)))

  module _ (s : Session) (seen : Progress) (edits edits_now : List Edit) (old new : ControlState C O) (reads : is_ended old.standing ≡ false) where
    abbrev Less : Type 0
    Less = control_left new < control_left old

    -- what is published takes no line
    published : (given : Option Edit) (taken : ControlState C O) → Finishes source sink s edits given taken edits_now new → to_take new ≤ to_take taken
    published None taken f = omega (arith, ap to_take f.1)
    published (Some edit) taken f = omega (arith, fewer [] _ taken new f.goes)

    -- control has ended
    ended_by : (mid taken : ControlState C O) (why : End) (given : Option Edit) → to_take mid ≤ to_take old → EndsBy source sink why mid given taken → Finishes source sink s edits given taken edits_now new → Less
    ended_by mid taken why None few ends f = less_by_end old new reads (ap (λ (c : ControlState C O). is_ended c.standing) (f.1 ∙ ends.state))
        (omega (arith, ap to_take f.1, fewer [] [] mid taken ends.goes, few))
    ended_by mid taken why (Some edit) few ends f = absurd (none-some edit (sym ends.none))

    -- the next line was taken, or none is left
    taken_by : (mid : ControlState C O) → to_take mid ≤ to_take old → TakesALine source sink s seen edits mid edits_now new → Less
    taken_by mid few t = by t.carries
      where
        by : CarriesOut source sink seen mid t.given t.taken → Less
        by (inl line) = less_by_line old new reads (omega (arith, published t.given t.taken t.finishes, fewer (line.line ∷ []) _ mid t.taken line.goes, few))
        by (inr (inl last)) = ended_by mid t.taken _ t.given few last.ends t.finishes
        by (inr (inr fault)) = ended_by mid t.taken _ t.given few fault t.finishes

  -- **A letter of control that is due leaves less.**
  pub letter_less : (s : Session) (seen : Progress) (edits edits_now : List Edit) (old new : ControlState C O) → is_line_due seen old.standing ≡ true →
      IsLetter source sink s seen edits old edits_now new → control_left new < control_left old
  letter_less s seen edits edits_now old new due letter = by letter.replies.fault refl
    where
      reads : is_ended old.standing ≡ false
      reads = due_is_open seen old.standing due

      few : to_take letter.answered ≤ to_take old
      few = omega (arith, fewer [] _ old letter.answered letter.goes)

      stands : (b : Bool) → letter.replies.fault ≡ b → letter.answered.standing ≡ cut_off b Ready
      stands b e = ap (λ (c : ControlState C O). c.standing) letter.replies.state ∙ (λ i. cut_off (e i) (due_is_ready seen old.standing due i))

      by : (b : Bool) → letter.replies.fault ≡ b → control_left new < control_left old
      by true e = let stops = letter.stops (ap is_ready (stands true e)) in
          less_by_end old new reads (ap (λ (c : ControlState C O). is_ended c.standing) stops.1 ∙ ap is_ended (stands true e)) (omega (arith, ap to_take stops.1, few))
      by false e = taken_by s seen edits edits_now old new reads letter.answered few (letter.goes_on (ap is_ready (stands false e)))
