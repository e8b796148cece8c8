-- What is said of a butler whose ends met the other ends of their rings, and of the files of its sources.
use Rattle.std.specs.Prelude.{◌≡◌, ℕ, List, ◌++◌, slice_get, Some, IsSome, codes}
use Rattle.ses_io.specs.Files.{Files, HasNameUnder}
use Rattle.session_model.specs.declared.session.Session.{Session}
use Rattle.session_model.specs.declared.edit.Edit.{Edit}
use Rattle.audio_source.specs.Opened.{OpenedSource}
use Rattle.piece_item.specs.declared.butler_ends.ButlerEnds.{ButlerEnds}
use Rattle.ring_meeting.specs.Told.{AreTold}
use Rattle.capture_flush.specs.Flushed.{IsFlushed, IsFlushedInPart}
use Rattle.capture_drain.specs.Files.{RunStart, tape_of, OtherFilesStand}
use Rattle.butler.specs.ButlerState.{Rested, resumed}
use Rattle.butler.specs.Serving.{IsServing, AreStocked, IsTrueTo, SourcesStand}

-- What a butler keeps when its ends meet the other ends of their rings.
pub record IsKeptBy {V : Type 0} (s : Session) (edits : List Edit) (r : Rested V) (old new : ButlerEnds) : Type 0 where
  pub serving : IsServing s edits (resumed r old) → IsServing s edits (resumed r new)
  pub stocked : AreStocked r.supplies r.drain old → AreStocked r.supplies r.drain new
  pub true_to : (files : Files) → IsTrueTo files s edits (resumed r old) → IsTrueTo files s edits (resumed r new)
  pub takes : (run : RunStart) (files : Files) → IsFlushed (tape_of run old.takes.items) r.drain.files files → IsFlushed (tape_of run new.takes.items) r.drain.files files
  pub in_part : (run : RunStart) (files : Files) → IsFlushedInPart (tape_of run old.takes.items) files → IsFlushedInPart (tape_of run new.takes.items) files

abbrev pub MeetingKeeps : Type 0 → Type 0
MeetingKeeps V = (s : Session) (edits : List Edit) (r : Rested V) (old new : ButlerEnds) → AreTold old new → IsKeptBy s edits r old new

-- Where the sources were among the files and none was named as takes are, their files stand while only takes are written.
abbrev pub SourcesAreNoTakes : Type 0
SourcesAreNoTakes = (s : Session) (held files : Files) (opened : List OpenedSource) → ¬ (HasNameUnder held (s.takes ++ codes "-")) →
    ((i : ℕ) (o : OpenedSource) → slice_get opened i ≡ Some o → IsSome (held o.file)) → OtherFilesStand s held files → SourcesStand held files opened
