-- The last line of out, which says how a run failed (own).
use Rattle.std.specs.Prelude.{ℕ, List, [], ◌++◌, codes, decimal, Option, Some, None}
use Rattle.std.specs.Option.{option_map_or}
use Rattle.cycle_journal.specs.declared.status.Status.{Status}
use Rattle.cycle_journal.specs.declared.status.Status.TheVariants.{Done, Usage, Session, SourceFile, ReadFault, WriteFault, InputFault, MasterFault, ControlFault, OutFault, Refuted, BadReport, BadInput, NoMemory, TakesExist, ControlTooLong}
use Rattle.fault_lines.specs.Session.{session_words}
use Rattle.fault_lines.specs.File.{file_words, input_words}

-- the words behind `error `: none after success, and none where out itself failed
abbrev pub fault_words : Status → Option (List ℕ)
fault_words Done = None
fault_words Usage = Some (codes "usage")
fault_words (Session why) = Some (codes "session " ++ session_words why)
fault_words (SourceFile name why) = Some (codes "source " ++ name ++ codes " " ++ file_words why)
fault_words ReadFault = Some (codes "read-fault")
fault_words WriteFault = Some (codes "write-fault")
fault_words InputFault = Some (codes "input-fault")
fault_words MasterFault = Some (codes "master-fault")
fault_words ControlFault = Some (codes "control-fault")
fault_words OutFault = None
fault_words (Refuted line) = Some (codes "refuted " ++ decimal line)
fault_words (BadReport line) = Some (codes "bad-report " ++ decimal line)
fault_words (BadInput why) = Some (codes "input " ++ input_words why)
fault_words NoMemory = Some (codes "no-memory")
fault_words (TakesExist takes) = Some (codes "takes-exist " ++ takes)
fault_words ControlTooLong = Some (codes "control-too-long")

-- a line of an error
abbrev pub error_line : List ℕ → List ℕ
error_line words = codes "error " ++ words ++ codes "\n"

-- the line of a status, its line feed included; nothing where it has no words
abbrev pub fault_line : Status → List ℕ
fault_line status = option_map_or error_line (fault_words status) []
