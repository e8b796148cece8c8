-- The number that the program ends with (own).
use Rattle.std.specs.Prelude.{ℕ}
use Rattle.cycle_journal.specs.declared.status.Status.{Status}
use Rattle.cycle_journal.specs.declared.status.Status.TheVariants.{Done, Usage, Session, SourceFile, ReadFault, WriteFault, InputFault, MasterFault, ControlFault, OutFault, Refuted, BadReport, BadInput, NoMemory, TakesExist, ControlTooLong}

abbrev pub number_of : Status → ℕ
number_of Done = 0
number_of Usage = 1
number_of (Session why) = 2
number_of (SourceFile name why) = 3
number_of ReadFault = 4
number_of WriteFault = 5
number_of InputFault = 6
number_of MasterFault = 7
number_of ControlFault = 8
number_of OutFault = 9
number_of (Refuted line) = 10
number_of (BadReport line) = 11
number_of (BadInput why) = 12
number_of NoMemory = 13
number_of (TakesExist takes) = 14
number_of ControlTooLong = 17
