-- The test of the start passes up to the answer, and fails from there on.
use Rattle.std.proofs.Common.{◌≡◌, true, false, nat_lt, get_or, arith, rules}
use Rattle.std.specs.List.Sorted.{IsPartitionPoint}
use Rattle.std.proofs.lemmas.Bool.Decides.{nat_tests}
use Rattle.std.proofs.lemmas.List.Sorted.{IsPartitionPoint-from_clause, IsPartitionedBy-ltb}
use Rattle.session_model.specs.declared.starts.Stretch.{Stretch}
use Rattle.session_model.proofs.starts.begun_before.Goals as goal

pub returns-clause-begun : goal.returns-clause-begun
returns-clause-begun c = λ k d h.
    let index = c.args.index.now in
    let point : IsPartitionPoint (λ (y : Stretch). nat_lt y.at c.args.end ≡ true) (λ y. nat_lt y.at c.args.end ≡ false) index c.partition_point.result =
    IsPartitionPoint-from_clause (λ (y : Stretch). nat_lt y.at c.args.end) index c.partition_point.result c.partition_point.ensures.partitioned
    (IsPartitionedBy-ltb (λ s. s.at) index c.args.end c.requires.starts) (λ a r q k. search rules) in
    let passes : nat_lt (get_or index k d).at c.args.end ≡ true = point.0 k d (omega arith) h in grind (arith, nat_tests)

pub returns-clause-later : goal.returns-clause-later
returns-clause-later c = λ k d h l.
    let index = c.args.index.now in
    let point : IsPartitionPoint (λ (y : Stretch). nat_lt y.at c.args.end ≡ true) (λ y. nat_lt y.at c.args.end ≡ false) index c.partition_point.result =
    IsPartitionPoint-from_clause (λ (y : Stretch). nat_lt y.at c.args.end) index c.partition_point.result c.partition_point.ensures.partitioned
    (IsPartitionedBy-ltb (λ s. s.at) index c.args.end c.requires.starts) (λ a r q k. search rules) in
    let fails : nat_lt (get_or index k d).at c.args.end ≡ false = point.1 k d h l in grind (arith, nat_tests)
