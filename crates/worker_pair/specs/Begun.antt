-- What the workers of a run begin with, as no worker holds it and the contracts speak of it.
use Rattle.std.specs.Prelude.{ℕ, Bool, true, false, List, []}
use Rattle.ses_io.specs.Files.{Files}
use Rattle.ses_io.specs.Outside.{MediaOutside, SourceOutside, SinkOutside}
use Rattle.session_model.specs.declared.session.Session.{Session}
use Rattle.session_model.specs.declared.edit.Edit.{Edit}
use Rattle.butler.specs.ButlerState.{Served}
use Rattle.process_cycle.specs.ProcessState.{Playing}

pub record Begun : Type 0 where
  -- the session that was opened
  pub session : Session
  -- whether tracks may be recorded: in a play they may, in an export never
  pub records : Bool
  -- the files, as the media held them, and how many writes of it had failed
  pub files : Files
  pub write_faults : ℕ
  -- the bytes that the input had left, and those that the master held
  pub start : List ℕ
  pub before : List ℕ

-- what no worker holds between two steps
pub record At : Type 0 where
  pub begun : Begun
  -- whether the header of the master was written
  pub header : Bool
  -- the edits that the butler entered last, and those in which the process looked last
  pub served : List Edit
  pub played : List Edit

-- by what media, input and master tell
abbrev pub begun_with : {V I W : Type 0} → MediaOutside V → SourceOutside I → SinkOutside W → Session → Bool → V → I → W → Begun
begun_with media inputs sinks s records v i w = record { session = s; records = records; files = media.files v; write_faults = media.write_faults v; start = inputs.left i; before = sinks.held w }

-- nothing was entered or written yet
abbrev pub at_first : Begun → At
at_first begun = record { begun = begun; header = false; served = []; played = [] }

-- the butler entered these edits; the process looked in these; the header was written
abbrev pub turned : List Edit → At → At
turned edits at = record at { served = edits }

abbrev pub looked : List Edit → At → At
looked edits at = record at { played = edits }

abbrev pub headed : At → At
headed at = record at { header = true }

-- as the contracts of butler and process have it
abbrev pub served_at : At → Served
served_at at = record { session = at.begun.session; held = at.begun.files; edits = at.served }

abbrev pub playing_at : At → Playing
playing_at at = record { session = at.begun.session; edits = at.played; start = at.begun.start; before = at.begun.before }
