-- Sorting moves the stretches, and what is noted then leaves their starts.
use Rattle.std.proofs.Common.{List, map, sym, subst, rules}
use Rattle.std.specs.List.Sorted.{IsPermutation}
use Rattle.std.proofs.lemmas.List.Sorted.{IsPermutation-map, IsNonDecreasingBy-from_sort_by_key, All-permutation}
use Rattle.session_model.specs.declared.starts.Stretch.{Stretch}
use Rattle.session_model.specs.Starts.{bare, IsStretch}
use Rattle.session_model.proofs.StartLemmas.{rising_from}
use Rattle.session_model.proofs.starts.order.Goals as goal

pub returns-clause-same : goal.returns-clause-same
returns-clause-same c =
    let P : List Stretch → Type 0 = λ bs. IsPermutation (map bare c.args.index.now) bs in
    subst P (sym c.note_reaches.ensures.same) (IsPermutation-map bare c.args.index.now c.sort_unstable_by_key.new.self c.sort_unstable_by_key.ensures.permutation)

pub returns-clause-rising : goal.returns-clause-rising
returns-clause-rising c =
    let sorted : List Stretch = c.sort_unstable_by_key.new.self in
    rising_from sorted c.note_reaches.new.index c.note_reaches.ensures.same
    (All-permutation IsStretch c.args.index.now sorted c.sort_unstable_by_key.ensures.permutation c.requires)
    (IsNonDecreasingBy-from_sort_by_key (λ (s : Stretch). s.at) sorted c.sort_unstable_by_key.ensures.sorted (λ a r q k. search rules))
    c.note_reaches.ensures.ends c.note_reaches.ensures.reaches
