use Rattle.std.proofs.Common.{◌≡◌, ◌≤◌, take, All, vec_capacity}
use Rattle.ses_units.proofs.lane.with_room.Given as goal

abbrev pub invariant-loop-p : goal.invariant-loop-p
invariant-loop-p l = record {
  items : l.room.items ≡ take l.p-index l.points;
  capacity : 1024 ≤ vec_capacity l.room;
  quiet : All (λ p. p.gain ≤ 262144) (take l.p-index l.points);
}
