-- The next line is taken.
use Rattle.std.proofs.Common.{◌≡◌, ℕ, ◌+◌, ◌≤◌, arith, refl, ap, ◌∙◌, sym, subst, List, []}
use Rattle.std.specs.Prelude.{Bool, true, false, map, Option, Some, None, Result, Ok, Err, IfOk, OnErr, IfSome, IsTrue}
use Rattle.ses_io.specs.Faults.{HasCause}
use Rattle.ses_io.specs.Outside.{SourceOutside}
use Rattle.ses_io.specs.declared.errors.Failed.{Failed}
use Rattle.session_model.specs.declared.edit.Edit.{Edit}
use Rattle.engine_model.specs.Edits.{keeps_forms}
use Rattle.engine_model.specs.Lines.{Line, Nothing, Says, Unread}
use Rattle.engine_model.specs.Plain.{Do, Wait, Sync}
use Rattle.edit_script.specs.Reading.{Read, read_line}
use Rattle.edit_script.specs.Laws.{ReadCanBeSaid, WaitsAreFew}
use Rattle.edit_script.specs.declared.command.Command.{Command}
use Rattle.control_lines.specs.Lines.{LinesState, to_come, TakesLine, TakesAFront, CutsLine}
use Rattle.control_desk.specs.Seen.{edit_of}
use Rattle.control_desk.specs.Standing.{is_ready}
use Rattle.control_desk.specs.State.{ControlState, Tells, lines_left}
use Rattle.control_desk.specs.GoesOn.{ReadsLines}
use Rattle.control_desk.specs.Taking.{LeavesLines, TakesNext, TakesNone, taken, IsLegal}
use Rattle.control_desk.proofs.ReadingLemmas.{legal_of, reads_next, reads_fault}

abbrev Said : Type 0
Said = Result (Option (Read Command)) Failed

module _ {C : Type 0} (source : SourceOutside C) where
  none_left : (old new : LinesState C) (script : Option (List Line)) → script ≡ None → (source.tells → CutsLine (to_come source old) None (to_come source new)) → Tells source script →
      lines_left source old script ≡ []
  none_left old new None is cuts tells = ap (map read_line) (cuts tells)
  none_left old new (Some lines) is cuts tells = absurd cc

  leaves : (lines : List Line) (old new : LinesState C) (fault : Bool) (script : Option (List Line)) → script ≡ None → ReadsLines source lines old new false fault →
      LeavesLines source lines old new fault script script
  leaves lines old new fault script is reads = subst (λ s. LeavesLines source lines old new fault s s) (sym is) reads

module _ {C O : Type 0} (source : SourceOutside C) where
  takes_next : (old : ControlState C O) (new : LinesState C) (said : Option (Read Command)) → old.script ≡ None → ReadCanBeSaid → WaitsAreFew → TakesLine source old.lines said new →
      (source.tells → CutsLine (to_come source old.lines) said (to_come source new)) → source.faults new.source ≡ source.faults old.lines.source →
      TakesNext source old said (record old { lines = new })
  takes_next old new said is said_again few took cuts same = record {
    state = refl;
    lines = leaves source (taken said) old.lines new false old.script is (reads_next source old.lines new said took cuts same);
    legal = legal_of source old.lines new said said_again few took;
    last = λ e t. none_left source old.lines new old.script is (subst (λ s. source.tells → CutsLine (to_come source old.lines) s (to_come source new)) e cuts) t;
  }

  pub took_next : (was old : ControlState C O) (new : LinesState C) (r : Said) → was ≡ old → was.script ≡ None → ReadCanBeSaid → WaitsAreFew → IfOk r (λ said. TakesLine source was.lines said new) →
      (source.tells → IfOk r (λ said. CutsLine (to_come source was.lines) said (to_come source new))) → HasCause (source.faults was.lines.source) (source.faults new.source) r →
      IfOk r (λ said. TakesNext source old said (record was { lines = new }))
  took_next was old new (Ok said) same is said_again few took cuts cause = subst (λ (o : ControlState C O). TakesNext source o said (record was { lines = new })) same
      (takes_next was new said is said_again few took cuts cause.kept)
  took_next was old new (Err why) same is said_again few took cuts cause = tt

  pub took_none : (was old : ControlState C O) (new : LinesState C) (r : Said) → was ≡ old → was.script ≡ None → OnErr r (TakesAFront source was.lines new) →
      HasCause (source.faults was.lines.source) (source.faults new.source) r → OnErr r (TakesNone source old (record was { lines = new }))
  took_none was old new (Ok said) same is front cause = tt
  took_none was old new (Err why) same is front cause = subst (λ (o : ControlState C O). TakesNone source o (record was { lines = new })) same record {
    state = refl;
    lines = leaves source [] was.lines new true was.script is (reads_fault source was.lines new front cause.later cause.rose);
  }

-- ---- what is known of the line

legal_edit : (line : Line) → IsLegal line → IfSome (edit_of line) (λ edit. IsTrue (keeps_forms edit))
legal_edit Nothing legal = tt
legal_edit (Says (Do edit)) legal = legal
legal_edit (Says (Wait n)) legal = tt
legal_edit (Says Sync) legal = tt
legal_edit (Unread why) legal = tt

pub keeps_forms_of : (line : Line) (given : Option Edit) → given ≡ edit_of line → IsLegal line → IfSome given (λ edit. IsTrue (keeps_forms edit))
keeps_forms_of line given is legal = subst (λ g. IfSome g (λ edit. IsTrue (keeps_forms edit))) (sym is) (legal_edit line legal)

pub few_of : (line : Line) (n entries : ℕ) → IsLegal line → line ≡ Says (Wait n) → entries ≤ 100000 → entries + n ≤ 200000
few_of line n entries legal is few = let most : (1 ≤ n) × (n ≤ 100000) = subst IsLegal is legal in omega (arith, most.1, few)

pub ready_still : {C O : Type 0} {source : SourceOutside C} {old new : ControlState C O} {said : Option (Read Command)} → TakesNext source old said new → is_ready old.standing ≡ true →
    is_ready new.standing ≡ true
ready_still {C} {O} takes ready = ap (λ (x : ControlState C O). is_ready x.standing) takes.state ∙ ready
