-- No reach up to the answer goes beyond the position, and no stretch ends beyond its reach.
use Rattle.std.proofs.Common.{◌≡◌, ◌≤◌, true, false, nat_le, get_or, arith, rules}
use Rattle.std.specs.List.Sorted.{IsPartitionPoint}
use Rattle.std.proofs.lemmas.Bool.Decides.{nat_tests}
use Rattle.std.proofs.lemmas.List.Sorted.{IsPartitionPoint-from_clause, IsPartitionedBy-leb}
use Rattle.session_model.specs.declared.starts.Stretch.{Stretch}
use Rattle.session_model.proofs.starts.ended_by.Goals as goal

pub returns-clause-ended : goal.returns-clause-ended
returns-clause-ended c = λ k d h.
    let index = c.args.index.now in
    let point : IsPartitionPoint (λ (y : Stretch). nat_le y.reach c.args.from ≡ true) (λ y. nat_le y.reach c.args.from ≡ false) index c.partition_point.result =
    IsPartitionPoint-from_clause (λ (y : Stretch). nat_le y.reach c.args.from) index c.partition_point.result c.partition_point.ensures.partitioned
    (IsPartitionedBy-leb (λ s. s.reach) index c.args.from c.requires.reaches) (λ a r q k. search rules) in
    let passes : nat_le (get_or index k d).reach c.args.from ≡ true = point.0 k d (omega arith) h in
    let reach : (get_or index k d).reach ≤ c.args.from = grind (arith, nat_tests) in
    omega (arith, c.requires.ends k d (omega (arith, c.partition_point.ensures.bound)))
