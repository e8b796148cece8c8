-- What has failed of the media after a turn.
use Rattle.std.specs.Prelude.{true, Result, Ok, Err}
use Rattle.butler.specs.declared.faults.ButlerFault.{ButlerFault}
use Rattle.butler.specs.declared.faults.ButlerFault.TheVariants.{ReadFault, WriteFault}
use Rattle.butler.specs.declared.turning.Turn.{Turn}
use Rattle.serve_worker.specs.declared.faults.MediaFaults.{MediaFaults}

abbrev pub faults_after : Result Turn ButlerFault → MediaFaults → MediaFaults
faults_after (Ok turn) f = f
faults_after (Err ReadFault) f = record f { read = true }
faults_after (Err WriteFault) f = record f { write = true }
