-- The end of a run in which nothing has failed, on the core machine.
use Rattle.std.specs.Prelude.{◌≡◌, ℕ, zero, suc, true, false, length, map, reverse, slice_get, Some}
use Rattle.session_model.specs.declared.session.Session.{Session}
use Rattle.cycle_journal.specs.JournalView.{seen_entries}
use Rattle.machine_model.specs.Core.{Core, TrackState}
use Rattle.machine_model.specs.Events.{after}
use Rattle.machine_model.specs.Letters.{butler_moves, is_idle}
use Rattle.piece_item.specs.Views.{ack_of}
use Rattle.read_ahead.specs.Items.{kinds}
use Rattle.run_rings.specs.declared.joining.TrackRings.{TrackRings}
use Rattle.worker_pair.specs.declared.ending.Ending.{Ending}
use Rattle.worker_pair.specs.Tied.{AreRingsOf, IsTied, captured_of}
use Rattle.engine_core.specs.declared.run.Run.{Run}
use Rattle.run_end.specs.Failures.{nothing_failed}
use Rattle.run_end.specs.declared.parting.RunEnd.{RunEnd}

-- The core machine carries out the letter B until it moves nothing: so many move something before.
abbrev pub DrainsTo : Session → ℕ → Core → ℕ → Core → Type 0
DrainsTo s cycles c zero d = (is_idle s cycles c ≡ true) × (d ≡ after s cycles c (butler_moves s cycles c))
DrainsTo s cycles c (suc n) d = (is_idle s cycles c ≡ false) × DrainsTo s cycles (after s cycles c (butler_moves s cycles c)) n d

-- ---- the last turns

-- The state to which these turns lead from a state is that of the rings; the process and control have no part in them.
pub record DrainsFrom {V : Type 0} (s : Session) (cycles : ℕ) (c : Core) (e : Ending V) : Type 0 where
  pub last : Core
  pub turns : ℕ
  pub drains : DrainsTo s cycles c turns last
  pub rings : AreRingsOf s last e
  pub entries : last.entries ≡ c.entries
  pub to_control : last.to_control ≡ c.to_control

-- ---- what is left

-- the two rings of a track, joined again
pub record AreRingsOfTrack (x : TrackState) (r : TrackRings) : Type 0 where
  -- what was sent, how much of it was received, and the looks that found nothing more
  pub sent : x.sent ≡ reverse (kinds r.plays.sent)
  pub received : x.received ≡ length r.plays.received
  pub tails : x.tails ≡ reverse r.plays.tails
  -- what was captured, how much of it was flushed, and the blocks that found the ring full
  pub put : x.put ≡ reverse (map captured_of r.takes.sent)
  pub flushed : x.flushed ≡ length r.takes.received
  pub heads : x.heads ≡ reverse r.takes.heads

module _ {V I W : Type 0} where
  -- **What a run leaves is this state of the core machine.**
  pub record IsLeftBy (s : Session) (d : Core) (ended : RunEnd V I W) : Type 0 where
    pub edits : d.edits ≡ ended.edits.items
    pub entries : d.entries ≡ reverse (seen_entries ended.journal.items)
    pub many : length d.tracks ≡ length ended.rings.items
    pub tracks : (t : ℕ) (x : TrackState) (r : TrackRings) → slice_get d.tracks t ≡ Some x → slice_get ended.rings.items t ≡ Some r → AreRingsOfTrack x r
    pub to_control : d.to_control.sent ≡ reverse (map ack_of ended.acks.sent)

  -- The last turns lead from a state to one that is left.
  pub record EndsAt (s : Session) (cycles : ℕ) (c : Core) (ended : RunEnd V I W) : Type 0 where
    pub last : Core
    pub turns : ℕ
    pub drains : DrainsTo s cycles c turns last
    pub left : IsLeftBy s last ended

  -- **Where nothing has failed, the end of a run is so many letters B of the core machine**, the last of which moves nothing.
  abbrev pub EndsAsMachine : Session → Run V I W → RunEnd V I W → Type 0
  EndsAsMachine s run ended = (c : Core) → nothing_failed ended.failed ≡ true → IsTied s c run.pair → EndsAt s run.pair.butler.cycles c ended
