use Rattle.std.proofs.Common.{◌≡◌, ◌*◌, length, map, refl, ap, ◌∙◌, rules}
use Rattle.route_mix.specs.Blocks.{silence}
use Rattle.route_mix.specs.Desks.{block_sizes}
use Rattle.route_mix.proofs.DeskLemmas.{new_keeps, silent_sizes}
use Rattle.route_mix.proofs.desk.Desk.new.Goals as goal

pub invariant_of-result : goal.invariant_of-result
invariant_of-result c =
    let gains : length c.in_ok-vec.field-0.items ≡ 2 * c.args.s.now.block = search rules in
    let zeros : c.in_ok-vec-2.field-0.items ≡ silence (2 * c.args.s.now.block) = search rules in
    new_keeps c.args.s.now c.requires.formed c.in_ok-new_sounds.field-0.items c.in_ok-new_sounds-2.field-0.items c.in_ok-new_sums.field-0.items (length c.in_ok-vec.field-0.items) c.in_ok-vec-2.field-0.items
    c.in_ok-new_sounds.ensures c.in_ok-new_sounds-2.ensures c.in_ok-new_sums.ensures gains zeros

pub returns-clause-session : goal.returns-clause-session
returns-clause-session c = record {
  block = refl;
  inputs = ap (map length) c.in_ok-new_sounds.ensures ∙ silent_sizes (block_sizes c.args.s.now);
  posts = ap (map length) c.in_ok-new_sounds-2.ensures ∙ silent_sizes (block_sizes c.args.s.now);
}
