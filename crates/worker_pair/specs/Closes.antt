-- What is left when the process ends.
use Rattle.std.specs.Prelude.{◌≡◌, map, reverse}
use Rattle.session_model.specs.declared.session.Session.{Session}
use Rattle.machine_model.specs.Core.{Core}
use Rattle.piece_item.specs.Views.{ack_of}
use Rattle.process_ends.specs.Ends.{EndsMeet, Meet, shut, shut_ends}
use Rattle.worker_pair.specs.declared.ending.Ending.{Ending}
use Rattle.worker_pair.specs.declared.ending.Stopped.{Stopped}
use Rattle.worker_pair.specs.declared.pair.Pair.{Pair}
use Rattle.worker_pair.specs.Tied.{AreRingsOf, IsTied}

-- The process has ended: its rings of takes and of acknowledgements are closed, all ends met, and all else is as it was.
pub record Closes {V I W : Type 0} (old : Pair V I W) (ending : Ending V) (stopped : Stopped I W) : Type 0 where
  pub edition : ending.edition ≡ old.edition
  pub butler : ending.butler ≡ record old.butler { ends = ending.butler.ends }
  pub met : EndsMeet (shut_ends old.process.ends) old.butler.ends (record ending.ends { to_control = shut old.process.ends.to_control }) ending.butler.ends
  pub control : Meet (shut old.process.ends.to_control) old.acks ending.ends.to_control stopped.acks
  -- and all else is given back
  pub input : stopped.input ≡ old.process.input.input
  pub master : stopped.master ≡ old.process.master.sink
  pub journal : stopped.journal ≡ old.process.journal

-- the rings are those of the same state of the core machine, which knows no end of them; so is the ring to control, from which nothing was taken
abbrev pub ClosesAsMachine : {V I W : Type 0} → Session → Pair V I W → Ending V → Type 0
ClosesAsMachine s old ending = (c : Core) → IsTied s c old → AreRingsOf s c ending × (c.to_control.sent ≡ reverse (map ack_of ending.ends.to_control.sent))
