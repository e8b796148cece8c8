-- What is so of the butler's thread between two turns, by its own lists alone.
use Rattle.std.specs.Prelude.{◌≡◌, ℕ, Bool, true, List, take}
use mathlib.Core.List.{IsPrefix}
use Rattle.ses_io.specs.Outside.{MediaOutside}
use Rattle.session_model.specs.declared.edit.Edit.{Edit}
use Rattle.capture_drain.specs.Files.{OtherFilesStand}
use Rattle.butler.specs.ButlerState.{ButlerState, Served, start_of}
use Rattle.butler.specs.Faults.{Counts}
use Rattle.butler.specs.Serving.{IsServing, IsTrueTo}
use Rattle.butler.specs.Takes.{HoldsTakes, MayRecord}
use Rattle.route_lists.specs.Lists.{IsReaderOf}
use Rattle.serve_worker.specs.declared.told.ServeTold.{ServeTold}
use Rattle.serve_worker.specs.declared.worker.ServeWorker.{ServeWorker}

-- What no code of the thread holds and clauses speak of: what a butler's contract does, and how many reads and writes of the media had
-- failed at first.
pub record ServedFrom : Type 0 where
  pub at : Served
  pub read_faults : ℕ
  pub write_faults : ℕ

-- these edits are entered
abbrev pub with_entered : List Edit → ServedFrom → ServedFrom
with_entered edits on = record { at = record { session = on.at.session; held = on.at.held; edits = edits }; read_faults = on.read_faults; write_faults = on.write_faults }

module _ {V : Type 0} where
  -- what it was given at first, and these edits
  abbrev pub served_from : MediaOutside V → ServeTold V → List Edit → ServedFrom
  served_from media told edits = record {
    at = record { session = told.session.value; held = media.files told.media.value; edits = edits };
    read_faults = media.read_faults told.media.value;
    write_faults = media.write_faults told.media.value;
  }

  -- the edits that it entered last, by its own number
  abbrev pub entered_last : ServeWorker V → List Edit
  entered_last w = take w.butler.entered w.reader.edition.edits

  -- What is so of the media: of its files only takes have changed, which hold what was received, and each count of faults rose just
  -- where a call has failed so.
  pub record KeepsMedia (media : MediaOutside V) (on : ServedFrom) (read_failed : Bool) (b : ButlerState V) : Type 0 where
    pub others : media.tells → OtherFilesStand on.at.session on.at.held (media.files b.media)
    pub may_record : media.tells → MayRecord on.at.session on.at.held b.sources.opened
    pub takes : media.tells → HoldsTakes media (start_of on.at) on.write_faults b
    pub reads : Counts read_failed on.read_faults (media.read_faults b.media)
    pub writes : Counts b.write_failed on.write_faults (media.write_faults b.media)

  -- A turn may be made in the edition that the reader sees: these edits are the first of it.
  pub record TurnsAt (on : ServedFrom) (w : ServeWorker V) : Type 0 where
    pub reader_of : IsReaderOf on.at.session w.reader
    pub begins : IsPrefix on.at.edits w.reader.edition.edits
    pub serving : IsServing on.at.session on.at.edits w.butler

  -- The butler serves its session, by editions that its reader has seen, and a read has failed or hasn't; what it sent is ordered and
  -- genuine by the edits that it entered last.
  pub record IsServingAs (media : MediaOutside V) (read_failed : Bool) (on : ServedFrom) (w : ServeWorker V) : Type 0 where
    pub turns : TurnsAt on w
    pub keeps : KeepsMedia media on read_failed w.butler
    pub true_to : media.tells → IsTrueTo on.at.held on.at.session on.at.edits w.butler
    -- what has failed is noted
    pub noted : w.failed ≡ record { read = read_failed; write = w.butler.write_failed }

  -- **The butler serves on**: it sends what is due, unless a read has failed.
  abbrev pub ServesAt : MediaOutside V → ServedFrom → ServeWorker V → Type 0
  ServesAt media on w = IsServingAs media w.butler.hushed on w

  -- **Its reader was refused**: it sends nothing any more, and flushes on.
  pub record FlushesAt (media : MediaOutside V) (on : ServedFrom) (w : ServeWorker V) : Type 0 where
    -- whether a read had failed before
    pub read_failed : Bool
    pub serves : IsServingAs media read_failed on w
    pub hushed : w.butler.hushed ≡ true

  -- it does either by its own number
  abbrev pub ServesAlone : MediaOutside V → ServeTold V → ServeWorker V → Type 0
  ServesAlone media told w = ServesAt media (served_from media told (entered_last w)) w

  abbrev pub FlushesAlone : MediaOutside V → ServeTold V → ServeWorker V → Type 0
  FlushesAlone media told w = FlushesAt media (served_from media told (entered_last w)) w
