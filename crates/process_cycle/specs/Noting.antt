-- How an entry is noted and acknowledged.
use Rattle.std.specs.Prelude.{◌≡◌, false, length}
use Rattle.disk_ring.specs.Sender.{Sender}
use Rattle.piece_item.specs.declared.ack.Ack.{Ack}
use Rattle.cycle_journal.specs.declared.entry.Entry.{Entry}
use Rattle.process_cycle.specs.ProcessState.{ProcessState}

-- the ring takes an acknowledgement, which has no samples
pub record MayPutAck (d : Sender Ack) : Type 0 where
  pub still_open : d.closed ≡ false
  pub room : d.room ≡ 0

-- the acknowledgement of the last entry, by the position after it
abbrev pub told_of : {I W : Type 0} → ProcessState I W → Entry → Ack
told_of p made = record { cycle = length p.journal.items; generation = p.generation; next = p.next; settled = made.settled }

-- only the journal, the next block and the two rings change
abbrev pub NotesOnly : {I W : Type 0} → ProcessState I W → ProcessState I W → Type 0
NotesOnly old new = new ≡ record old {
  ends = record { plays = old.ends.plays; takes = old.ends.takes; to_butler = new.ends.to_butler; to_control = new.ends.to_control };
  journal = new.journal;
  next = new.next;
}
