-- What calls of control do, one after another: the lines that were taken, and the replies that went out.
use Rattle.std.specs.Prelude.{◌≡◌, ℕ, ◌≤◌, Bool, true, false, List, [], ◌∷◌, ◌++◌, length, Option, Some, None}
use Rattle.ses_io.specs.Faults.{risen}
use Rattle.ses_io.specs.Outside.{SourceOutside, SinkOutside}
use Rattle.ses_io.specs.Streams.{AppendsSome}
use Rattle.engine_model.specs.Lines.{Line}
use Rattle.engine_model.specs.Replies.{Reply}
use Rattle.control_lines.specs.Begun.{has_no_feed}
use Rattle.control_lines.specs.Lines.{LinesState, to_come, Takes}
use Rattle.control_desk.specs.Texts.{reply_text, reply_texts}
use Rattle.control_desk.specs.Standing.{is_ended, read_failed, write_failed}
use Rattle.control_desk.specs.State.{ControlState, lines_in}

-- A count of faults, and whether one has happened, before and now: the count rose exactly where one happened.
pub record IsCounted (before now : ℕ) (was is : Bool) : Type 0 where
  pub later : before ≤ now
  pub kept : is ≡ was → now ≡ before
  pub raised : was ≡ false → is ≡ true → risen before ≤ now

-- Lines were read: these are the first of those that were to come.
pub record ReadsLines {C : Type 0} (source : SourceOutside C) (lines : List Line) (old new : LinesState C) (was is : Bool) : Type 0 where
  -- the bytes that they are made of, each of one at least
  pub bytes : List ℕ
  pub some : length lines ≤ length bytes
  -- and those of a line that was begun when a read failed: it is lost
  pub lost : List ℕ
  pub takes : Takes source (bytes ++ lost) old new
  pub no_feed : has_no_feed lost ≡ true
  pub none_lost : is ≡ false → lost ≡ []
  -- and no byte was read beyond it that is in no line
  pub none_waits : was ≡ false → is ≡ true → new.waiting ≡ []
  pub first : source.tells → lines_in (to_come source old) ≡ lines ++ lines_in (lost ++ to_come source new)
  pub counted : IsCounted (source.faults old.source) (source.faults new.source) was is

-- The write of a reply failed: those before it went out whole, and a front of it. It is the last that was given.
pub record HasLastInPart {O : Type 0} (sink : SinkOutside O) (replies : List Reply) (old new : O) : Type 0 where
  pub whole : List Reply
  pub last : Reply
  pub are : replies ≡ whole ++ last ∷ []
  pub front : sink.tells → AppendsSome (sink.held old ++ reply_texts whole) (sink.held new) (reply_text last)

-- Replies went out: all of them, whole, unless a write failed; then the last of them was cut off.
pub record AddsReplies {O : Type 0} (sink : SinkOutside O) (replies : List Reply) (old new : O) (was is : Bool) : Type 0 where
  pub all : sink.tells → is ≡ false → sink.held new ≡ sink.held old ++ reply_texts replies
  pub cut : was ≡ false → is ≡ true → HasLastInPart sink replies old new
  pub counted : IsCounted (sink.faults old) (sink.faults new) was is

module _ {C O : Type 0} where
  -- lines are read and answered; a script says its own: neither source nor sink is touched, and nothing fails
  abbrev pub Passes : SourceOutside C → SinkOutside O → ControlState C O → List Line → List Reply → ControlState C O → Option (List Line) → Option (List Line) → Type 0
  Passes source sink old lines replies new None None = ReadsLines source lines old.lines new.lines (read_failed old.standing) (read_failed new.standing)
      × AddsReplies sink replies old.out new.out (write_failed old.standing) (write_failed new.standing)
  Passes source sink old lines replies new (Some before) (Some after) = (before ≡ lines ++ after) × (new.lines ≡ old.lines) × (new.out ≡ old.out)
      × (read_failed new.standing ≡ read_failed old.standing) × (write_failed new.standing ≡ write_failed old.standing)
  Passes source sink old lines replies new None (Some after) = ⊥
  Passes source sink old lines replies new (Some before) None = ⊥

  -- **These lines were taken and these replies went out**, each in its order.
  pub record GoesOn (source : SourceOutside C) (sink : SinkOutside O) (old : ControlState C O) (lines : List Line) (replies : List Reply) (new : ControlState C O) : Type 0 where
    pub passes : Passes source sink old lines replies new old.script new.script
    -- once control has ended nothing changes
    pub over : is_ended old.standing ≡ true → (lines ≡ []) × (replies ≡ []) × (new ≡ old)
