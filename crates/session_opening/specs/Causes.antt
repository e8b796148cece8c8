-- What ties each answer of a read to the media's count of failed reads.
use Rattle.std.specs.Prelude.{◌≡◌, ◌≤◌, Result, Ok, Err}
use Rattle.ses_io.specs.Faults.{risen}
use Rattle.ses_io.specs.Outside.{MediaOutside}
use Rattle.session_opening.specs.declared.reading.Unread.{Unread}
use Rattle.session_opening.specs.declared.reading.Unread.TheVariants.{Fault, NoMemory}

-- a fault comes only where the count rose; else it stays
abbrev pub UnreadCause : {V A : Type 0} → MediaOutside V → V → V → Result A Unread → Type 0
UnreadCause outside old new (Ok a) = outside.read_faults new ≡ outside.read_faults old
UnreadCause outside old new (Err Fault) = risen (outside.read_faults old) ≤ outside.read_faults new
UnreadCause outside old new (Err NoMemory) = outside.read_faults new ≡ outside.read_faults old
