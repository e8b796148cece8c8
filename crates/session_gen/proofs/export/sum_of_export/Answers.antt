use Rattle.std.proofs.Common.{◌≡◌, ◌∙◌, rules, FitsSigned}
use Rattle.std.specs.Int.{w128}
use Rattle.std.proofs.lemmas.Int.{to_z-of_z}
use Rattle.session_gen.specs.Gen.{master}
use Rattle.session_gen.proofs.TotalLemmas.{header_stands, sum_is}
use Rattle.session_gen.proofs.export.sum_of_export.Goals as goal

pub sum_of_file-requires : goal.sum_of_file-requires
sum_of_file-requires c = let held : c.bytes.result.now ≡ master c.args.n = c.bytes.ensures ∙ c.in_ok-outcome.ensures c.in-Done.is in
    header_stands c.args.n c.bytes.result.now held

pub returns-in-Done : goal.returns-in-Done
returns-in-Done c = let held : c.bytes.result.now ≡ master c.args.n = c.bytes.ensures ∙ c.in_ok-outcome.ensures c.in-Done.is in
    let fits : FitsSigned w128 c.sum_of_file.result = search rules in
    to_z-of_z w128 c.sum_of_file.result fits ∙ sum_is c.args.n c.bytes.result.now c.sum_of_file.result c.sum_of_file.ensures held
