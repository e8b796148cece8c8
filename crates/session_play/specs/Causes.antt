-- What ties each fault of a run to the count of its object.
use Rattle.std.specs.Prelude.{◌≡◌, ◌≢◌, ◌≤◌, ℕ, false, List, slice_get, Some}
use Rattle.ses_io.specs.Faults.{risen}
use Rattle.ses_io.specs.Outside.{MediaOutside, SourceOutside, SinkOutside}
use Rattle.ses_io.specs.declared.world.World.{World}
use Rattle.cycle_journal.specs.declared.status.Status.{Status}
use Rattle.cycle_journal.specs.declared.status.Status.TheVariants.{Done, ReadFault, WriteFault, InputFault, MasterFault, ControlFault, OutFault}
use Rattle.run_rings.specs.declared.joining.TrackRings.{TrackRings}
use Rattle.session_play.specs.declared.outcome.Outcome.{Outcome}
use Rattle.session_play.specs.Reported.{IsStill}

-- A count of faults, before and now, and the fault that says that it rose.
pub record IsCause (fault : Status) (before now : ℕ) (s : Status) : Type 0 where
  -- the fault is answered only where it rose
  pub rose : s ≡ fault → risen before ≤ now
  -- else it doesn't fall,
  pub later : s ≢ fault → before ≤ now
  -- and at Done it is as it was
  pub done : s ≡ Done → now ≡ before

-- no ring of items was closed
abbrev pub AllStayOpen : List TrackRings → Type 0
AllStayOpen rings = (t : ℕ) (r : TrackRings) → slice_get rings t ≡ Some r → r.plays.closed ≡ false

-- **Each fault that is answered has its cause**, and Done comes only where none is.
pub record HasCauses {M I C W O : Type 0} (media : MediaOutside M) (inputs : SourceOutside I) (controls : SourceOutside C) (masters : SinkOutside W) (outs : SinkOutside O) (old : World M I C W O)
    (new : Outcome M I C W O) : Type 0 where
  pub reads : IsCause ReadFault (media.read_faults old.media) (media.read_faults new.world.media) new.status
  pub writes : IsCause WriteFault (media.write_faults old.media) (media.write_faults new.world.media) new.status
  pub inputs_are : IsCause InputFault (inputs.faults old.input) (inputs.faults new.world.input) new.status
  pub masters_are : IsCause MasterFault (masters.faults old.master) (masters.faults new.world.master) new.status
  pub controls_are : IsCause ControlFault (controls.faults old.control) (controls.faults new.world.control) new.status
  pub outs_are : IsCause OutFault (outs.faults old.out) (outs.faults new.world.out) new.status
  -- a ring of items is closed only where a read of the media failed
  pub still_open : IsStill (media.read_faults old.media) (media.read_faults new.world.media) → AllStayOpen new.rings.items
