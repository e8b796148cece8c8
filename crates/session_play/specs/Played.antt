-- **A run that was played**, from the bytes of its files to what it leaves.
use Rattle.std.specs.Prelude.{◌≡◌, true, List, [], Option, Some, None, Ok, IsOk}
use Rattle.ses_io.specs.Outside.{MediaOutside, SourceOutside, SinkOutside}
use Rattle.ses_io.specs.declared.world.World.{World}
use Rattle.session_model.specs.declared.session.Session.{Session}
use Rattle.session_model.specs.Valid.{IsValid}
use Rattle.engine_model.specs.Lines.{Line}
use Rattle.engine_model.specs.Replies.{Reply}
use Rattle.run_world.specs.declared.finished.Finished.{Finished}
use Rattle.engine_core.specs.Serially.{GoesSerially}
use Rattle.session_play.specs.declared.outcome.Outcome.{Outcome}
use Rattle.session_play.specs.Controlled.{GoesByLines}
use Rattle.session_play.specs.Counted.{AreCounted}
use Rattle.input_head.specs.Input.{input_head}
use Rattle.session_play.specs.Opening.{TakesAreThere, opens}
use Rattle.session_play.specs.Recorded.{GetsItsMaster, LeavesItsRings, LeavesItsTakes, ReadsItsInput}
use Rattle.session_play.specs.Reported.{TellsOut}
use Rattle.session_play.specs.Request.{Request, records}
use Rattle.session_play.specs.Unplayed.{IsUnplayed}
use Rattle.cycle_journal.specs.declared.entry.Entry.{Entry}
use Rattle.ses_io.specs.FixedList.{Listed}

module _ {M I C W O : Type 0} where
  -- an outcome hands on what the engine has left, out apart
  pub record HandsOn (f : Finished M I C W O) (new : Outcome M I C W O) : Type 0 where
    pub world : new.world ≡ record f.world { out = new.world.out }
    pub journal : new.journal ≡ Some f.journal
    pub rings : new.rings ≡ f.rings
    pub acks : new.acks ≡ Some f.acks
    pub grants : new.grants ≡ f.grants

  pub record IsRun (media : MediaOutside M) (inputs : SourceOutside I) (controls : SourceOutside C) (masters : SinkOutside W) (outs : SinkOutside O) (old : World M I C W O) (r : Request)
      (new : Outcome M I C W O) : Type 0 where
    -- a valid session was played, which is the file's where the media tells; no take was in the way
    pub session : Session
    pub valid : IsValid session
    pub of_file : media.tells → opens (media.files old.media) r ≡ Ok session
    pub fresh : media.tells → records r ≡ true → ¬ (TakesAreThere (media.files old.media) session)
    -- and its input is one to play with
    pub heard : inputs.tells → IsOk (input_head session (inputs.left old.input))
    -- what the engine left, which the outcome hands on
    pub finished : Finished M I C W O
    pub hands_on : HandsOn finished new
    -- by these lines, and these replies to them
    pub lines : List Line
    pub replies : List Reply
    pub by_lines : GoesByLines controls old.control r session finished lines replies
    -- without letters no block of a take is lost, unless a write of the media has failed
    pub serial : r.letters ≡ [] → GoesSerially session finished
    pub master : GetsItsMaster media masters old r session finished
    pub input : ReadsItsInput inputs old.input session finished
    pub takes : LeavesItsTakes media inputs old r session finished
    pub rings : LeavesItsRings media old session finished
    pub counted : AreCounted media inputs controls masters old finished
    -- out gets replies, report and the line of the status
    pub out : TellsOut outs old.out new.world.out r session finished replies new.status

  -- a run that has a journal was played, and one that has none wasn't
  abbrev pub WasPlayed : MediaOutside M → SourceOutside I → SourceOutside C → SinkOutside W → SinkOutside O → World M I C W O → Request → Outcome M I C W O → Option (Listed Entry) → Type 0
  WasPlayed media inputs controls masters outs old r new (Some journal) = IsRun media inputs controls masters outs old r new
  WasPlayed media inputs controls masters outs old r new None = IsUnplayed media inputs outs old new
