use Rattle.std.proofs.Common.{◌≡◌}
use Rattle.std.specs.Vec.Iter.{into_iter_items}
use Rattle.run_rings.proofs.JoiningLemmas.{AreJoined}
use Rattle.run_rings.proofs.joining.join_all.Given as goal

abbrev pub invariant-loop-joined : goal.invariant-loop-joined
invariant-loop-joined l = record {
  joined : AreJoined l.fn.track_ends (into_iter_items l.sends) (into_iter_items l.plays) (into_iter_items l.captures) (into_iter_items l.flushes) l.rings.items l.joined;
  room : l.rings.room ≡ l.fn.rings.room;
}
