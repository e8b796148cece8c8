use Rattle.std.proofs.Common.{◌≡◌, List, length, map, ap, ap₂, sym, ◌∙◌, subst}
use Rattle.std.specs.Prelude.{ℤ}
use Rattle.std.specs.Vec.{with_items}
use Rattle.std.proofs.lemmas.List.{with_items_is}
use Rattle.session_model.specs.declared.session.Session.{Session}
use Rattle.route_mix.specs.Feeds.{HaveSizes}
use Rattle.route_mix.specs.Desks.{IsDeskOf, mixed_desk, block_sizes, route_blocks, input_at, post_at}
use Rattle.route_mix.proofs.DeskLemmas.{keeps_room, sizes_of, of_sizes, a_route, blocks_sized, same_state}
use Rattle.route_mix.proofs.desk.Desk.mix.Goals as goal

-- the desk before the mix is one of the session
desk : (c : goal.After-as_mut_slice-4) → IsDeskOf c.args.e.now.session (record { block = c.self.inside.block; inputs = c.self.inside.inputs.items; posts = c.self.inside.posts.items })
desk c = subst (IsDeskOf c.args.e.now.session) (sym c.self.view_is) c.requires.desk

sized : (c : goal.After-as_mut_slice-4) (xs ys : List (List ℤ)) → xs ≡ ys → map length ys ≡ block_sizes c.args.e.now.session → HaveSizes c.session.result.now xs
sized c xs ys same sizes = let s = c.args.e.now.session in
    subst (λ z. HaveSizes z xs) (sym c.session.ensures.session) (subst (HaveSizes s) (sym same) (sizes_of s (a_route s c.session.ensures.seen.valid.formed) ys sizes))

pub mix_all-requires-clause-inputs : goal.mix_all-requires-clause-inputs
mix_all-requires-clause-inputs c = sized c _ c.self.inside.inputs.items c.as_mut_slice-2.ensures.value (desk c).inputs

pub mix_all-requires-clause-posts : goal.mix_all-requires-clause-posts
mix_all-requires-clause-posts c = sized c _ c.self.inside.posts.items c.as_mut_slice-3.ensures.value (desk c).posts

pub mix_all-requires-clause-sums : goal.mix_all-requires-clause-sums
mix_all-requires-clause-sums c = sized c _ c.self.inside.sums.items c.as_mut_slice-4.ensures.value (c.self.invariant.sums ∙ (desk c).inputs)

-- ---- after it

module _ (c : goal.After-self-4-1) where
  abbrev s : Session
  s = c.args.e.now.session

  before : IsDeskOf s (record { block = c.self.inside.block; inputs = c.self.inside.inputs.items; posts = c.self.inside.posts.items })
  before = subst (IsDeskOf s) (sym c.self.view_is) c.requires.desk

  new_inputs : c.mix_all.new.inputs ≡ route_blocks s (λ r i k. input_at s c.args.places.now c.self.inside.inputs.items i r k)
  new_inputs = c.mix_all.ensures.inputs ∙ ap₂ (λ z ins. route_blocks z (λ r i k. input_at z c.args.places.now ins i r k)) c.session.ensures.session c.as_mut_slice-2.ensures.value

  new_posts : c.mix_all.new.posts ≡ route_blocks s (λ r i k. post_at s c.args.places.now c.self.inside.inputs.items i r k)
  new_posts = c.mix_all.ensures.posts ∙ ap₂ (λ z ins. route_blocks z (λ r i k. post_at z c.args.places.now ins i r k)) c.session.ensures.session c.as_mut_slice-2.ensures.value

  kept_inputs : (with_items c.self.inside.inputs c.mix_all.new.inputs).items ≡ c.mix_all.new.inputs
  kept_inputs = with_items_is c.self.inside.inputs c.mix_all.new.inputs (c.mix_all.auto.inputs ∙ c.as_mut_slice-2.ensures.len)

  kept_posts : (with_items c.self.inside.posts c.mix_all.new.posts).items ≡ c.mix_all.new.posts
  kept_posts = with_items_is c.self.inside.posts c.mix_all.new.posts (c.mix_all.auto.posts ∙ c.as_mut_slice-3.ensures.len)

  input_lengths : map length (with_items c.self.inside.inputs c.mix_all.new.inputs).items ≡ map length c.self.inside.inputs.items
  input_lengths = ap (map length) (kept_inputs ∙ new_inputs)
      ∙ blocks_sized s (a_route s c.session.ensures.seen.valid.formed) (λ r i k. input_at s c.args.places.now c.self.inside.inputs.items i r k) ∙ sym before.inputs

  post_lengths : map length (with_items c.self.inside.posts c.mix_all.new.posts).items ≡ map length c.self.inside.posts.items
  post_lengths = ap (map length) (kept_posts ∙ new_posts)
      ∙ blocks_sized s (a_route s c.session.ensures.seen.valid.formed) (λ r i k. post_at s c.args.places.now c.self.inside.inputs.items i r k) ∙ sym before.posts

  sum_lengths : map length (with_items c.self.inside.sums c.mix_all.new.sums).items ≡ map length c.self.inside.sums.items
  sum_lengths = ap (map length) (with_items_is c.self.inside.sums c.mix_all.new.sums (c.mix_all.auto.sums ∙ c.as_mut_slice-4.ensures.len))
      ∙ of_sizes s (a_route s c.session.ensures.seen.valid.formed) c.mix_all.new.sums (subst (λ z. HaveSizes z c.mix_all.new.sums) c.session.ensures.session c.mix_all.ensures.sums)
      ∙ sym (c.self.invariant.sums ∙ before.inputs)

pub invariant_of-self : goal.invariant_of-self
invariant_of-self c = keeps_room c.self.inside.block (length c.self.inside.gains.items) c.self.inside.inputs.items c.self.inside.posts.items c.self.inside.sums.items _ _ _ c.self.inside.zeros.items _
    (input_lengths c) (post_lengths c) (sum_lengths c)
    (ap length (with_items_is c.self.inside.gains c.mix_all.new.gains (c.mix_all.auto.gains ∙ c.as_mut_slice.ensures.len)) ∙ c.mix_all.ensures.gains ∙ ap length c.as_mut_slice.ensures.value) c.self.invariant

pub returns-clause-mixed : goal.returns-clause-mixed
returns-clause-mixed c = same_state c.self.inside.block _ _ _ _ (kept_inputs c ∙ new_inputs c) (kept_posts c ∙ new_posts c)
    ∙ ap (λ d. mixed_desk c.args.e.now.session c.args.places.now d) c.self.view_is

pub returns-clause-session : goal.returns-clause-session
returns-clause-session c z is = let was = subst (IsDeskOf z) (sym c.self.view_is) is in record {
  block = was.block;
  inputs = input_lengths c ∙ was.inputs;
  posts = post_lengths c ∙ was.posts;
}
