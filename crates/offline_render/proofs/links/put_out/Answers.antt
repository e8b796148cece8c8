use Rattle.std.proofs.Common.{◌≡◌, ◌<◌, ◌∙◌, length, get_or, set, arith, rules, FitsSigned, w32, w64}
use Rattle.std.specs.Prelude.{pos, ◌+ℤ◌}
use Rattle.std.proofs.lemmas.Int.{to_z-of_z}
use Rattle.route_graph.specs.Walks.{plain}
use Rattle.offline_render.specs.Links.{given_at}
use Rattle.offline_render.proofs.LinkLemmas.{target_there, one_given, output_given}
use Rattle.offline_render.proofs.links.put_out.Goals as goal

pub returns-in-Some-clause-sums : goal.returns-in-Some-clause-sums
returns-in-Some-clause-sums c =
    let to = c.in-Some.to in
    let fits : FitsSigned w32 c.args.taps.behind = search rules in
    let whole : FitsSigned w64 c.from.result = search rules in
    let sums : c.add.new.sums ≡ set c.args.sums.now to (get_or c.args.sums.now to (pos 0) +ℤ given_at c.args.s.now c.args.c (plain c.args.q.now) to c.from.result) = simp to_z-of_z at c.add.ensures.sums in
    let there : to < length c.args.s.now.routes.items = target_there (length c.args.s.now.routes.items) to c.args.q.now.target c.in-Some.is c.requires.low.output in
    output_given c.args.s.now c.args.c (plain c.args.q.now) c.args.taps to c.from.result c.args.sums.now c.add.new.sums c.in-Some.is (c.from.ensures ∙ to_z-of_z w32 c.args.taps.behind fits)
    (one_given c.args.s.now c.args.c (plain c.args.q.now) to c.from.result c.args.sums.now c.add.new.sums (omega arith) sums)
