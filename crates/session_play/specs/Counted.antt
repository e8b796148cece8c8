-- Each count of faults of a run rose exactly where that is noted.
use Rattle.std.specs.Prelude.{◌≡◌, false}
use Rattle.ses_io.specs.Outside.{MediaOutside, SourceOutside, SinkOutside}
use Rattle.ses_io.specs.declared.world.World.{World}
use Rattle.run_world.specs.declared.finished.Finished.{Finished}
use Rattle.run_end.specs.Failures.{IsFaultCount}

-- but for out's, which is said with what it got
pub record AreCounted {M I C W O : Type 0} (media : MediaOutside M) (inputs : SourceOutside I) (controls : SourceOutside C) (masters : SinkOutside W) (old : World M I C W O) (f : Finished M I C W O) : Type 0 where
  pub reads : IsFaultCount (media.read_faults old.media) (media.read_faults f.world.media) f.faults.read
  pub writes : IsFaultCount (media.write_faults old.media) (media.write_faults f.world.media) f.faults.write
  pub inputs_are : IsFaultCount (inputs.faults old.input) (inputs.faults f.world.input) f.faults.input
  pub masters_are : IsFaultCount (masters.faults old.master) (masters.faults f.world.master) f.faults.master
  pub controls_are : IsFaultCount (controls.faults old.control) (controls.faults f.world.control) f.faults.control
  pub memory : f.faults.memory ≡ false
