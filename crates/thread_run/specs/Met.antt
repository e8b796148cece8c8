-- How the ends of the three meet, once their threads have ended.
use Rattle.std.specs.Prelude.{◌≡◌}
use Rattle.disk_ring.specs.Receiver.{Receiver}
use Rattle.edition_log.specs.EditionState.{EditionState as Edition}
use Rattle.piece_item.specs.declared.ack.Ack.{Ack}
use Rattle.butler.specs.ButlerState.{ButlerState}
use Rattle.process_cycle.specs.declared.process.parts.ProcessParts.{ProcessParts}
use Rattle.process_ends.specs.Ends.{EndsMeet, Meet}
use Rattle.worker_pair.specs.declared.ending.Ending.{Ending}
use Rattle.worker_pair.specs.declared.ending.Stopped.{Stopped}

-- All ends have met, and all else is as it was.
pub record HaveMetAtLast {V I W : Type 0} (edition : Edition) (butler : ButlerState V) (process : ProcessParts I W) (acks : Receiver Ack) (ending : Ending V) (stopped : Stopped I W) : Type 0 where
  pub edition_is : ending.edition ≡ edition
  pub butler_is : ending.butler ≡ record butler { ends = ending.butler.ends }
  pub met : EndsMeet process.ends butler.ends (record ending.ends { to_control = process.ends.to_control }) ending.butler.ends
  pub control : Meet process.ends.to_control acks ending.ends.to_control stopped.acks
  pub input : stopped.input ≡ process.input
  pub master : stopped.master ≡ process.master
  pub journal : stopped.journal ≡ process.journal
