-- In rising points those through a place come first, so a search by halves finds where they end.
use Rattle.std.proofs.Common.{◌+◌, nat_lt, arith, rules}
use Rattle.std.proofs.lemmas.Bool.Decides.{nat_tests}
use Rattle.std.proofs.lemmas.List.Sorted.{IsPartitionPoint-from_clause}
use Rattle.ses_units.proofs.PointLemmas.{partitioned, rising_items}
use Rattle.ramp_fixed.proofs.piece.count_through.Goals as goal

pub returns-clause-through : goal.returns-clause-through
returns-clause-through c = λ k d l m.
    let parts = IsPartitionPoint-from_clause (λ q. nat_lt q.at (c.args.place + 1)) c.args.points.now c.partition_point.result c.partition_point.ensures.partitioned
    (partitioned (c.args.place + 1) c.args.points.now (rising_items c.args.points.now c.requires.lane.rising)) (λ a r q k. search rules) in
    let pass = parts.0 k d l m in
    grind (arith, nat_tests, pass)

pub returns-clause-after : goal.returns-clause-after
returns-clause-after c = λ k d l m.
    let parts = IsPartitionPoint-from_clause (λ q. nat_lt q.at (c.args.place + 1)) c.args.points.now c.partition_point.result c.partition_point.ensures.partitioned
    (partitioned (c.args.place + 1) c.args.points.now (rising_items c.args.points.now c.requires.lane.rising)) (λ a r q k. search rules) in
    let pass = parts.1 k d l m in
    grind (arith, nat_tests, pass)
