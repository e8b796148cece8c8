-- What workers of a run on threads have before the first thread starts.
use Rattle.std.specs.Prelude.{◌≡◌}
use Rattle.ses_io.specs.Outside.{MediaOutside, SourceOutside, SinkOutside}
use Rattle.disk_ring.specs.Receiver.{Receiver}
use Rattle.piece_item.specs.declared.ack.Ack.{Ack}
use Rattle.input_blocks.specs.Rest.{stream_told}
use Rattle.process_ends.specs.Ends.{AreNew, AreOtherEnds, IsNewOut}
use Rattle.route_lists.specs.Answers.{new_reader}
use Rattle.route_lists.specs.Lists.{Published}
use Rattle.cycle_grants.specs.Granting.{GrantingState}
use Rattle.cycle_grants.specs.Making.{AreNewEnds}
use Rattle.play_worker.specs.declared.worker.PlayWorker.{PlayWorker}
use Rattle.play_worker.specs.Leaves.{IsReady}
use Rattle.serve_worker.specs.declared.told.ServeTold.{ServeTold}
use Rattle.serve_worker.specs.declared.worker.ServeWorker.{ServeWorker}
use Rattle.serve_worker.specs.Serves.{ServesAlone}
use Rattle.worker_pair.specs.declared.beginning.Start.{Start}

module _ {V I W : Type 0} where
  -- **Both workers are ready**, and have the two sides of the same rings, and readers of one list.
  pub record AreReady (media : MediaOutside V) (inputs : SourceOutside I) (sinks : SinkOutside W) (start : Start V I W) (p : PlayWorker I W) (b : ServeWorker V) (told : ServeTold V) (list : Published)
      (grants : GrantingState) (acks : Receiver Ack) : Type 0 where
    -- the process may play, and the butler serves on
    pub playing : IsReady inputs sinks p
    pub serving : ServesAlone media told b
    -- each was told of what the run was given
    pub session : p.told.session.value ≡ start.edition.session
    pub input : p.told.input.value ≡ start.input
    pub master : p.told.sink.value ≡ start.master
    pub served : told.session.value ≡ start.edition.session
    pub media_is : told.media.value ≡ start.media
    -- there is room for the cycles that are asked for
    pub cycles : p.process.journal.room ≡ start.cycles
    pub asked : b.butler.cycles ≡ start.cycles
    -- they have what was opened, and what the head of the input said
    pub opened : b.butler.sources.opened ≡ start.sources.opened
    pub stream : p.process.input.stream ≡ stream_told start.form
    -- nothing went through the rings of the process
    pub ends_are : AreNew start.edition.session p.process.ends
    -- the butler has the other ends of the process's rings, and control the other ends of its two
    pub others : AreOtherEnds p.process.ends b.butler.ends
    pub acks_are : IsNewOut start.edition.session.depth 0 acks
    pub acks_ring : acks.ring ≡ p.process.ends.to_control.ring
    pub grants_are : AreNewEnds start.edition.session.depth grants p.grants
    -- the list has no edit yet, as each reader sees
    pub list_is : list.edition ≡ start.edition
    pub first : p.reader ≡ new_reader start.edition list.table
    pub second : b.reader ≡ new_reader start.edition list.table
