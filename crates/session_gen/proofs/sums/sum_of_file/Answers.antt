use Rattle.std.proofs.Common.{◌≡◌, ◌/◌, ◌-◌, length, drop, take, ap, ◌∙◌, rules, FitsSigned}
use Rattle.std.specs.Int.{w128}
use Rattle.std.specs.Simd.{first_chunks}
use Rattle.std.proofs.lemmas.Int.{to_z-of_z}
use Rattle.std.proofs.lemmas.List.{take_rest}
use Rattle.session_gen.specs.Sums.{pair_numbers, total}
use Rattle.session_gen.proofs.SumLemmas.{file_back}
use Rattle.session_gen.proofs.sums.sum_of_file.Goals as goal

pub returns : goal.returns
returns c = λ form samples depth is.
    let fits : FitsSigned w128 c.sum_of_pairs.result = search rules in
    let whole : take (length c.args.bytes.now - 44) (drop 44 c.args.bytes.now) ≡ drop 44 c.args.bytes.now = take_rest c.args.bytes.now 44 in
    let front : c.as_chunks.result.0.now ≡ first_chunks 2 (length (drop 44 c.args.bytes.now) / 2) (drop 44 c.args.bytes.now) = c.as_chunks.ensures.front ∙ ap (λ xs. first_chunks 2 (length xs / 2) xs) whole in
    to_z-of_z w128 c.sum_of_pairs.result fits ∙ c.sum_of_pairs.ensures
    ∙ ap (λ pairs. total (pair_numbers pairs)) front
    ∙ ap (λ xs. total (pair_numbers (first_chunks 2 (length (drop 44 xs) / 2) (drop 44 xs)))) is
    ∙ file_back form samples depth
