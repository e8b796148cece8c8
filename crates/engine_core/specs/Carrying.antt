-- When control may carry out a line on a run, and what that does to both.
use Rattle.std.specs.Prelude.{◌≡◌, Bool, true, false, not, List, length, Option, Some, None}
use Rattle.std.specs.List.{list_all}
use Rattle.std.specs.Option.{option_map_or}
use Rattle.ses_io.specs.Outside.{SourceOutside, SinkOutside}
use Rattle.session_model.specs.declared.session.Session.{Session}
use Rattle.session_model.specs.declared.edit.Edit.{Edit}
use Rattle.engine_model.specs.Edits.{has_quit}
use Rattle.engine_model.specs.Lines.{Line}
use Rattle.machine_model.specs.Core.{Core}
use Rattle.control_desk.specs.Seen.{edit_of}
use Rattle.control_desk.specs.State.{ControlState}
use Rattle.control_desk.specs.Standing as desk
use Rattle.control_desk.specs.Standing.{is_ended}
use Rattle.control_letter.specs.Letter.{IsLetter}
use Rattle.worker_pair.specs.Never.{starts_recording}
use Rattle.worker_pair.specs.Tied.{IsTied}
use Rattle.engine_core.specs.declared.run.Run.{Run}
use Rattle.engine_core.specs.declared.engine.Engine.{Engine}
use Rattle.engine_core.specs.Shows.{edits_of, shows}

-- a line that lets no transport record
abbrev pub is_quiet : Line → Bool
is_quiet line = option_map_or (λ edit. not (starts_recording edit)) (edit_of line) true

-- the lines to come are known, and none lets the transport record
abbrev pub IsQuietScript : Option (List Line) → Type 0
IsQuietScript None = ⊥
IsQuietScript (Some lines) = list_all is_quiet lines ≡ true

-- Control may carry out a line, where these edits were accepted.
pub record MayCarry {C O : Type 0} (records : Bool) (edits : List Edit) (control : ControlState C O) : Type 0 where
  -- while it hasn't ended, no edit has quit
  pub unquit : is_ended control.standing ≡ false → has_quit edits (length edits) ≡ false
  -- it has ended by a quit exactly where one has
  pub quits : desk.has_quit control.standing ≡ has_quit edits (length edits)
  -- where nothing is to be recorded, no line says so
  pub quiet : records ≡ false → IsQuietScript control.script

-- nothing but the newest edition changes
abbrev pub OnlyTheEdition : {V I W : Type 0} → Run V I W → Run V I W → Type 0
OnlyTheEdition old new = new ≡ record old { pair = record old.pair { edition = new.pair.edition } }

module _ {V I C W O : Type 0} where
  -- **The letter C on a run.**
  pub record CarriesALine (source : SourceOutside C) (sink : SinkOutside O) (s : Session) (old new : Engine V I C W O) : Type 0 where
    pub only : OnlyTheEdition old.run new.run
    pub letter : IsLetter source sink s (shows old.run) (edits_of old.run) old.control (edits_of new.run) new.control

  -- what it publishes is what the core machine publishes
  abbrev pub PublishesAsMachine : Session → Engine V I C W O → Engine V I C W O → Type 0
  PublishesAsMachine s old new = (c : Core) → IsTied s c old.run.pair → IsTied s (record c { edits = edits_of new.run }) new.run.pair
