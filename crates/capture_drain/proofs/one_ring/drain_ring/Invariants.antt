use Rattle.std.proofs.Common.{◌≡◌, ◌+◌, ℕ, set, length, Ok}
use Rattle.disk_ring.specs.Receiver.{GoesOnOut}
use Rattle.capture_flush.specs.Taking.{IsTakingOf}
use Rattle.capture_flush.specs.Flushed.{IsFlushed}
use Rattle.capture_drain.specs.State.{Fits}
use Rattle.capture_drain.specs.Files.{tape_of, WritesTakes}
use Rattle.capture_drain.proofs.one_ring.drain_ring.Given as goal

abbrev pub ghost-drain_one : goal.ghost-drain_one
ghost-drain_one g a = record { run = g.at.run; rings = set g.at.rings a.track a.ring.now }

-- so many blocks were taken, and each time there was one
abbrev pub invariant-loop-taken : goal.invariant-loop-taken
invariant-loop-taken g l = record {
  goes_on : GoesOnOut l.initial.ring l.ring;
  tails : l.ring.tails ≡ l.initial.ring.tails;
  counted : length l.ring.received ≡ length l.initial.ring.received + l.taken;
  given : g.M.Media.outside.tells → IsFlushed (tape_of g.at.run g.at.rings) l.initial.files (g.M.Media.outside.files l.initial.media) →
      IsFlushed (tape_of g.at.run (set g.at.rings l.track l.ring)) l.files (g.M.Media.outside.files l.media);
  failed : l.files.failed ≡ l.initial.files.failed;
  fits : Fits l.kept l.ring;
  taking : IsTakingOf g.at.run.session l.files;
  media : WritesTakes {T = ℕ} g.M.Media.outside g.at.run.session g.at.rings (set g.at.rings l.track l.ring) l.initial.media l.media (Ok l.taken);
}
