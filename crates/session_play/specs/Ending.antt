-- The status that a run ends with which was played.
use Rattle.std.specs.Prelude.{◌||◌, Bool, if◌then◌else◌}
use Rattle.cycle_journal.specs.declared.status.Status.{Status}
use Rattle.cycle_journal.specs.declared.status.Status.TheVariants.{Done, ReadFault, WriteFault, InputFault, MasterFault, ControlFault, OutFault, NoMemory, ControlTooLong}
use Rattle.run_world.specs.declared.finished.Faults.{Faults}

-- of several faults the first in this order
abbrev pub status_at_end : Faults → Status
status_at_end f = if f.memory then NoMemory else (if f.input then InputFault else (if f.master then MasterFault else (if f.read then ReadFault
    else (if f.write then WriteFault else (if f.control then ControlFault else (if f.long then ControlTooLong else (if f.out then OutFault else Done)))))))

-- a write of the report has failed besides, or hasn't
abbrev pub with_report : Bool → Faults → Faults
with_report failed f = record f { out = f.out || failed }
