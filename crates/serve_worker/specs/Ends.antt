-- How a turn of the butler's thread goes, and how the thread ends.
use Rattle.std.specs.Prelude.{◌≡◌, ℕ, Bool, true, false, Result, Ok, Err}
use Rattle.std.specs.List.{list_all}
use Rattle.ses_io.specs.Outside.{MediaOutside}
use Rattle.session_model.specs.declared.session.Session.{Session}
use Rattle.butler.specs.declared.faults.ButlerFault.{ButlerFault}
use Rattle.butler.specs.declared.turning.Turn.{Turn}
use Rattle.butler.specs.declared.turning.Turn.TheVariants.{Moved, Idle}
use Rattle.butler.specs.ButlerState.{ButlerState}
use Rattle.butler.specs.Faults.{Fails, KeepsRest}
use Rattle.butler.specs.Hushed.{Hushes}
use Rattle.butler.specs.Turns.{AllSend, Answers, Receives}
use Rattle.route_lists.specs.Answers.{Enters}
use Rattle.serve_worker.specs.declared.serving.ServeEnd.{ServeEnd}
use Rattle.serve_worker.specs.declared.serving.ServeEnd.TheVariants as end
use Rattle.serve_worker.specs.declared.told.ServeTold.{ServeTold}
use Rattle.serve_worker.specs.declared.worker.ServeWorker.{ServeWorker}
use Rattle.serve_worker.specs.declared.worker.TurnStep.{TurnStep}
use Rattle.serve_worker.specs.declared.worker.TurnStep.TheVariants as step
use Rattle.serve_worker.specs.Kept.{KeepsButler}
use Rattle.serve_worker.specs.Serves.{FlushesAlone, ServedFrom, ServesAlone, ServesAt, entered_last, served_from, with_entered}

-- whether a turn was Idle, by what it answered
abbrev pub is_idle : Result Turn ButlerFault → Bool
is_idle (Ok Idle) = true
is_idle (Ok (Moved n)) = false
is_idle (Err why) = false

module _ {V : Type 0} where
  -- A turn of at most so many items was made in the edition that is seen, as the butler's contract has it.
  pub record TurnedOnce (media : MediaOutside V) (s : Session) (most : ℕ) (old : ServeWorker V) (idle : Bool) (new : ServeWorker V) : Type 0 where
    pub answer : Result Turn ButlerFault
    pub idle_is : idle ≡ is_idle answer
    pub answers : Answers s old.reader.edition most old.butler answer new.butler
    -- all acknowledgements were taken, and blocks; what was due was sent; what faults and reads it left
    pub receives : Receives old.butler new.butler
    pub sends : AllSend s old.reader.edition old.butler new.butler
    pub fails : Fails media old.butler answer new.butler
    pub rest : KeepsRest media s old.reader.edition old.butler new.butler

  -- The list was entered as it was published then, and in that edition a turn was made.
  pub record MakesATurn (media : MediaOutside V) (on : ServedFrom) (most : ℕ) (old : ServeWorker V) (idle : Bool) (new : ServeWorker V) : Type 0 where
    pub entered : Enters old.reader new.reader
    pub turned : TurnedOnce media on.at.session most (record { reader = new.reader; butler = old.butler; failed = old.failed }) idle new
    pub serves : ServesAt media (with_entered new.reader.edition.edits on) new

  -- The reader was refused, so none was, and nothing is sent any more.
  pub record TurnIsRefused (media : MediaOutside V) (on : ServedFrom) (old new : ServeWorker V) : Type 0 where
    pub serves : ServesAt media on (record { reader = new.reader; butler = old.butler; failed = old.failed })
    pub failed : new.failed ≡ old.failed
    pub hushes : Hushes old.butler new.butler

  -- what a step leaves, by how it went
  abbrev pub TurnLeaves : MediaOutside V → ServedFrom → ℕ → ServeWorker V → TurnStep → ServeWorker V → Type 0
  TurnLeaves media on most old step.Served new = MakesATurn media on most old false new
  TurnLeaves media on most old step.Idle new = MakesATurn media on most old true new
  TurnLeaves media on most old step.Refused new = TurnIsRefused media on old new

  -- ---- the end

  -- each capture ring has answered Closed
  abbrev pub all_closed : ButlerState V → Bool
  all_closed b = list_all (λ r. r.ended) b.ends.takes.items

  -- The rings of a butler that served on had been closed, and a turn after that was Idle, in the list as it was published then.
  pub record EndedIdle (media : MediaOutside V) (told : ServeTold V) (most : ℕ) (w : ServeWorker V) : Type 0 where
    pub before : ServeWorker V
    pub serves : ServesAlone media told before
    pub over : all_closed before.butler ≡ true
    pub made : MakesATurn media (served_from media told (entered_last before)) most before true w

  -- A butler whose reader was refused flushed on in the edition that it saw, until its rings had been closed and a turn after that was Idle.
  pub record FlushedOut (media : MediaOutside V) (told : ServeTold V) (most : ℕ) (old w : ServeWorker V) : Type 0 where
    pub flushes : FlushesAlone media told w
    pub reader : w.reader ≡ old.reader
    -- no read has failed since
    pub unread : media.read_faults w.butler.media ≡ media.read_faults old.butler.media
    -- before its last turn
    pub before : ServeWorker V
    pub flushed : FlushesAlone media told before
    pub keeps : KeepsButler old.butler before.butler
    pub seen : before.reader ≡ old.reader
    pub over : all_closed before.butler ≡ true
    pub turned : TurnedOnce media told.session.value most before true w

  -- It served on until its reader was refused, and then flushed on.
  pub record EndedRefused (media : MediaOutside V) (told : ServeTold V) (most : ℕ) (w : ServeWorker V) : Type 0 where
    pub before : ServeWorker V
    pub serves : ServesAlone media told before
    pub after : ServeWorker V
    pub refused : TurnIsRefused media (served_from media told (entered_last before)) before after
    pub out : FlushedOut media told most after w

  -- **what the butler's thread leaves**, by why it has ended
  abbrev pub ServeLeaves : MediaOutside V → ServeTold V → ℕ → ServeEnd → ServeWorker V → Type 0
  ServeLeaves media told most end.Over w = ServesAlone media told w × EndedIdle media told most w
  ServeLeaves media told most end.Refused w = EndedRefused media told most w
