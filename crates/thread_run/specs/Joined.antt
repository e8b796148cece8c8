-- What each worker leaves once its thread has ended, by its own lists alone.
use Rattle.std.specs.Prelude.{◌≡◌, ℕ}
use Rattle.ses_io.specs.Outside.{MediaOutside, SourceOutside, SinkOutside}
use Rattle.session_model.specs.declared.session.Session.{Session}
use Rattle.disk_ring.specs.Receiver.{GoesOnOut}
use Rattle.disk_ring.specs.Sender.{GoesOnIn}
use Rattle.control_desk.specs.State.{ControlState}
use Rattle.lead_worker.specs.declared.leading.Led.{Led}
use Rattle.lead_worker.specs.declared.link.ProcessLink.{ProcessLink}
use Rattle.lead_worker.specs.Leads.{LeadLeaves}
use Rattle.play_worker.specs.declared.playing.Played.{Played}
use Rattle.play_worker.specs.declared.worker.PlayWorker.{PlayWorker}
use Rattle.play_worker.specs.Leaves.{PlayLeaves}
use Rattle.serve_worker.specs.declared.serving.ServeEnd.{ServeEnd}
use Rattle.serve_worker.specs.declared.told.ServeTold.{ServeTold}
use Rattle.serve_worker.specs.declared.worker.ServeWorker.{ServeWorker}
use Rattle.serve_worker.specs.Ends.{ServeLeaves}
use Rattle.serve_worker.specs.Kept.{KeepsButler}

module _ {R C O : Type 0} where
  -- Control has led: its two ends are those of the rings that it was given.
  pub record HasLed (source : SourceOutside C) (sink : SinkOutside O) (s : Session) (cycles : ℕ) (from : ControlState C O) (link : ProcessLink) (led : Led R C O) : Type 0 where
    pub leaves : LeadLeaves source sink s cycles from led.memory led.lists led.control led.grants led.acks
    pub grants : GoesOnIn link.granting.to led.grants
    pub acks : GoesOnOut link.hearing led.acks

module _ {V : Type 0} where
  -- The butler has served.
  pub record HasServed (media : MediaOutside V) (told : ServeTold V) (most : ℕ) (old : ServeWorker V) (end : ServeEnd) (new : ServeWorker V) : Type 0 where
    pub leaves : ServeLeaves media told most end new
    pub keeps : KeepsButler old.butler new.butler

module _ {I W : Type 0} where
  -- The process has played.
  pub record HasPlayed (patience : ℕ) (inputs : SourceOutside I) (sinks : SinkOutside W) (old : PlayWorker I W) (played : Played I W) : Type 0 where
    pub leaves : PlayLeaves patience inputs sinks old played
    pub told : played.told ≡ old.told
    pub grants : GoesOnOut old.grants.from played.grants.from
