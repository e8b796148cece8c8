use Rattle.std.proofs.Common.{◌≡◌, ℕ, length, Ok}
use Rattle.capture_flush.specs.Taking.{IsTakingOf}
use Rattle.capture_flush.specs.Flushed.{IsFlushed}
use Rattle.capture_drain.specs.State.{AreFitted}
use Rattle.capture_drain.specs.Files.{tape_of, WritesTakes}
use Rattle.capture_drain.proofs.AllLemmas.{SoFar}
use Rattle.capture_drain.proofs.draining.drain_all.Given as goal

abbrev pub ghost-drain_track : goal.ghost-drain_track
ghost-drain_track g a = record { run = g.run; rings = a.rings.now }

-- the rings before this one were drained
abbrev pub invariant-loop-track : goal.invariant-loop-track
invariant-loop-track g l = record {
  count : l.count ≡ length l.initial.tracks;
  so_far : SoFar l.track l.most l.taken l.initial.rings l.rings;
  given : g.M.Media.outside.tells → IsFlushed (tape_of g.run l.initial.rings) l.initial.files (g.M.Media.outside.files l.initial.media) →
      IsFlushed (tape_of g.run l.rings) l.files (g.M.Media.outside.files l.media);
  failed : l.files.failed ≡ l.initial.files.failed;
  fitted : AreFitted (record { files = l.files; tracks = l.tracks }) l.rings;
  taking : IsTakingOf g.run.session l.files;
  media : WritesTakes {T = ℕ} g.M.Media.outside g.run.session l.initial.rings l.rings l.initial.media l.media (Ok l.taken);
}
