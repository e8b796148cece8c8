-- What a run began with: no worker holds it, and the contracts speak of it.
use Rattle.std.specs.Prelude.{List}
use Rattle.audio_source.specs.Opened.{OpenedSource}
use Rattle.input_blocks.specs.Rest.{StreamForm}
use Rattle.worker_pair.specs.Begun.{Begun}

pub record Started (V I W : Type 0) : Type 0 where
  -- session, files, and what input and master had
  pub begun : Begun
  -- the sources that were opened
  pub opened : List OpenedSource
  -- what was told of the data of the input
  pub stream : StreamForm
  -- the objects themselves, for their counts of faults
  pub media : V
  pub input : I
  pub master : W
