-- What control leaves of a play on threads: its counts of faults, and the lines that it hasn't taken.
use Rattle.std.proofs.Common.{◌≡◌, ℕ, List, [], ◌++◌, refl, sym, ap, ◌∙◌, append-nil}
use Rattle.std.specs.Prelude.{Bool, true, false, if◌then◌else◌, Option, Some, None}
use Rattle.std.proofs.lemmas.Bool.{false≢true, true≢false}
use Rattle.ses_io.specs.Outside.{SourceOutside, SinkOutside}
use Rattle.engine_model.specs.Lines.{Line}
use Rattle.engine_model.specs.Replies.{Reply}
use Rattle.control_desk.specs.declared.standing.End.TheVariants.{NoLine, Quit, ReadFailed, WriteFailed}
use Rattle.control_desk.specs.GoesOn as desk
use Rattle.control_desk.specs.GoesOn.{GoesOn, Passes}
use Rattle.control_desk.specs.State.{ControlState, Tells, ahead, reading}
use Rattle.control_desk.specs.Standing as standing
use Rattle.control_desk.specs.Standing.{Awaits, Ended, Ready, is_ended, read_failed, write_failed}
use Rattle.control_desk.proofs.ControlLemmas.{ahead_of}
use Rattle.run_end.specs.Failures.{IsFaultCount}

module _ {C O : Type 0} (source : SourceOutside C) (sink : SinkOutside O) where
  -- ---- counts

  counted_by : (before now : ℕ) (rose : Bool) → desk.IsCounted before now false rose → IsFaultCount before now rose
  counted_by before now rose c = record { later = c.later; kept = c.kept; raised = λ e. c.raised refl e }

  -- its source and out, as it began to read and ended
  pub record ReadingIsCounted (lines : C) (out : O) (new : ControlState C O) : Type 0 where
    pub reads : IsFaultCount (source.faults lines) (source.faults new.lines.source) (read_failed new.standing)
    pub writes : IsFaultCount (sink.faults out) (sink.faults new.out) (write_failed new.standing)

  by_script : (from : C) (out : O) (new : ControlState C O) (lines : List Line) (replies : List Reply) (after : Option (List Line)) → Passes source sink (reading from out) lines replies new None after → ReadingIsCounted from out new
  by_script from out new lines replies None passes = record {
    reads = counted_by (source.faults from) (source.faults new.lines.source) (read_failed new.standing) passes.0.counted;
    writes = counted_by (sink.faults out) (sink.faults new.out) (write_failed new.standing) passes.1.counted;
  }
  by_script from out new lines replies (Some after) passes = absurd passes

  pub reading_counted : (from : C) (out : O) (new : ControlState C O) (lines : List Line) (replies : List Reply) → GoesOn source sink (reading from out) lines replies new → ReadingIsCounted from out new
  reading_counted from out new lines replies goes = by_script from out new lines replies new.script goes.passes

  -- ---- what an accepted quit has left

  abbrev pub lines_left : ControlState C O → List Line
  lines_left control = if standing.has_quit control.standing then ahead source control else []

  pub only_a_quit : (control : ControlState C O) → standing.has_quit control.standing ≡ false → lines_left control ≡ []
  only_a_quit control e = ap (λ b. if b then ahead source control else []) e

  module _ (from control : ControlState C O) (lines : List Line) (replies : List Reply) (goes : GoesOn source sink from lines replies control)
      (last : control.standing ≡ Ended NoLine → Tells source from.script → ahead source from ≡ lines) where
    -- by how it has ended
    all_by : (st : standing.Standing) → control.standing ≡ st → is_ended st ≡ true → read_failed st ≡ false → write_failed st ≡ false → Tells source from.script →
        ahead source from ≡ lines ++ (if standing.has_quit st then ahead source control else [])
    all_by Ready is e unread unwritten tells = absurd (false≢true e)
    all_by (Awaits awaited) is e unread unwritten tells = absurd (false≢true e)
    all_by (Ended NoLine) is e unread unwritten tells = last is tells ∙ sym (append-nil lines)
    all_by (Ended Quit) is e unread unwritten tells = ahead_of source sink lines replies from control goes tells (ap read_failed is)
    all_by (Ended ReadFailed) is e unread unwritten tells = absurd (true≢false unread)
    all_by (Ended (WriteFailed quit)) is e unread unwritten tells = absurd (true≢false unwritten)

    pub all_taken : is_ended control.standing ≡ true → Tells source from.script → read_failed control.standing ≡ false → write_failed control.standing ≡ false → ahead source from ≡ lines ++ lines_left control
    all_taken ended tells unread unwritten = all_by control.standing refl ended unread unwritten tells
