-- The last turns of the butler: what they are, what is so while it takes them, and what they leave as it was.
use Rattle.std.specs.Prelude.{◌≡◌, ℕ, zero, suc, Bool, true, false, length, slice_get, take, Some, Result}
use Rattle.ses_io.specs.Outside.{MediaOutside}
use Rattle.disk_ring.specs.Sender.{Sender}
use Rattle.disk_ring.specs.Receiver.{Receiver}
use Rattle.piece_item.specs.declared.item.Item.{Item}
use Rattle.piece_item.specs.declared.take_block.TakeBlock.{TakeBlock}
use Rattle.butler.specs.declared.turning.Turn.{Turn}
use Rattle.butler.specs.declared.faults.ButlerFault.{ButlerFault}
use Rattle.process_ends.specs.declared.ends.ProcessEnds.{ProcessEnds}
use Rattle.worker_pair.specs.declared.ending.Ending.{Ending}
use Rattle.worker_pair.specs.Begun.{At, Begun}
use Rattle.worker_pair.specs.Runs.{Serves}
use Rattle.worker_pair.specs.Steps.{Turns, is_idle_answer}
use Rattle.run_end.specs.declared.failures.Failures.{Failures}
use Rattle.run_end.specs.Failures.{IsFaultCount, after_turn}
use Rattle.run_end.specs.Started.{Started}

-- what no worker holds, by what an ending has: the process has ended, and all edits are published
abbrev pub at_last : {V : Type 0} → Begun → Ending V → At
at_last begun e = record { begun = begun; header = true; served = take e.butler.entered e.edition.edits; played = e.edition.edits }

-- **The butler takes its last turns**, and what has failed of the media is noted.
pub record TakesLastTurns {V I W : Type 0} (media : MediaOutside V) (on : Started V I W) (e : Ending V) (failed : Failures) : Type 0 where
  pub serves : Serves media (at_last on.begun e) e
  pub opened : e.butler.sources.opened ≡ on.opened
  -- each count of faults rose exactly where it is noted, and the butler knows of it
  pub reads : IsFaultCount (media.read_faults on.media) (media.read_faults e.butler.media) failed.read
  pub writes : IsFaultCount (media.write_faults on.media) (media.write_faults e.butler.media) failed.write
  pub butler_reads : e.butler.hushed ≡ failed.read
  pub butler_writes : e.butler.write_failed ≡ failed.write

-- ---- the turns themselves

module _ {V : Type 0} where
  -- A turn in the newest edition, by a butler that serves; what fails in it is noted. It is Idle or it isn't.
  pub record IsLastTurn (media : MediaOutside V) (begun : Begun) (idle : Bool) (old : Ending V) (was : Failures) (new : Ending V) (now : Failures) : Type 0 where
    pub answer : Result Turn ButlerFault
    pub serves : Serves media (at_last begun old) old
    pub turns : Turns media (at_last begun old) old answer new
    pub noted : now ≡ after_turn answer was
    pub idle_so : is_idle_answer answer ≡ idle

  -- So many turns that aren't Idle lead from one state to another, and then one that is.
  abbrev pub TurnsTo : MediaOutside V → Begun → ℕ → Ending V → Failures → Ending V → Failures → Type 0
  TurnsTo media begun zero old was new now = IsLastTurn media begun true old was new now
  TurnsTo media begun (suc n) old was new now = (mid : Ending V) × (by : Failures) × IsLastTurn media begun false old was mid by × TurnsTo media begun n mid by new now

  -- **It took turns until one was Idle.**
  pub record HasTurned (media : MediaOutside V) (begun : Begun) (old : Ending V) (was : Failures) (new : Ending V) (now : Failures) : Type 0 where
    pub busy : ℕ
    pub to : TurnsTo media begun busy old was new now

-- ---- what they leave

-- The process's ends were only told what the butler did: what they sent and received stands, and the looks that they made.
pub record AreToldMore (old new : ProcessEnds) : Type 0 where
  pub many : length new.plays.items ≡ length old.plays.items
  pub plays : (t : ℕ) (r q : Receiver Item) → slice_get old.plays.items t ≡ Some r → slice_get new.plays.items t ≡ Some q → q ≡ record r { heard = q.heard; over = q.over }
  pub many_takes : length new.takes.items ≡ length old.takes.items
  pub takes : (t : ℕ) (k l : Sender TakeBlock) → slice_get old.takes.items t ≡ Some k → slice_get new.takes.items t ≡ Some l → l ≡ record k { got = l.got }
  pub to_butler : new.to_butler ≡ record old.to_butler { got = new.to_butler.got }
  pub to_control : new.to_control ≡ old.to_control

-- What turns of the butler leave as it was.
pub record LeavesAllElse {V : Type 0} (old : Ending V) (was : Failures) (new : Ending V) (now : Failures) : Type 0 where
  pub edition : new.edition ≡ old.edition
  pub cycles : new.butler.cycles ≡ old.butler.cycles
  pub ends : AreToldMore old.ends new.ends
  -- of faults only those of the media are noted, and what had failed has failed
  pub failed : now ≡ record was { read = now.read; write = now.write }
  pub read_still : was.read ≡ true → now.read ≡ true
  pub write_still : was.write ≡ true → now.write ≡ true

-- every block that was put into a capture ring was received
abbrev pub AllReceived : {V : Type 0} → Ending V → Type 0
AllReceived e = (t : ℕ) (k : Sender TakeBlock) (f : Receiver TakeBlock) → slice_get e.ends.takes.items t ≡ Some k → slice_get e.butler.ends.takes.items t ≡ Some f →
    f.received ≡ k.sent
