use Rattle.std.proofs.Common.{◌+◌, length, get_or, set, refl, ap, sym, ◌∙◌, subst, arith}
use Rattle.std.proofs.lemmas.List.{get_or-set_same}
use Rattle.sound_model.specs.Routes.{any_solo}
use Rattle.session_model.specs.Views.{routes_of}
use Rattle.route_mix.specs.Turns.{IsGiven}
use Rattle.route_mix.proofs.MixLemmas.{IsMixedTo, begun, inside, took, took_long, post_long, sums_long, stands, two_wide, still_small, one_turn, all_inputs, all_posts}
use Rattle.route_mix.proofs.mixing.mix_all.Goals as goal

pub loop-r-init : goal.loop-r-init
loop-r-init c = record {
  mixed = begun c.args.s.now c.requires.valid c.args.order.now c.requires.order c.args.places.now c.args.inputs.now c.tracks_take_their_own.ensures c.requires.inputs
      c.args.posts.now c.args.sums.now c.clear.new.sums c.requires.posts c.requires.sums c.clear.auto.sums c.clear.ensures;
  gains = refl;
}

pub take_in-requires : goal.take_in-requires
take_in-requires c =
    let e = c.index-as_slice-r.is ∙ ap (λ qs. get_or qs (get_or c.args.order.now c.loop-r.r-index 0) c.index-as_slice-r.result) c.as_slice.ensures.items in
    sums_long c.args.s.now c.requires.valid c.args.order.now c.requires.order c.args.places.now c.args.inputs.now c.order_mixes.ensures c.along_goes_on.ensures c.loop-r.r-index c.loop-r-test.true c.index-as_slice-r.result c.loop-r.inputs c.loop-r.posts c.loop-r.sums c.loop-r.invariant.mixed e c.index-sums-r.result c.index-inputs-r.result

pub give_on-requires-clause-route : goal.give_on-requires-clause-route
give_on-requires-clause-route c =
    let e = c.index-as_slice-r.is ∙ ap (λ qs. get_or qs (get_or c.args.order.now c.loop-r.r-index 0) c.index-as_slice-r.result) c.as_slice.ensures.items in
    stands c.args.s.now c.requires.valid c.args.order.now c.requires.order c.args.places.now c.args.inputs.now c.order_mixes.ensures c.along_goes_on.ensures c.loop-r.r-index c.loop-r-test.true c.index-as_slice-r.result c.loop-r.inputs c.loop-r.posts c.loop-r.sums c.loop-r.invariant.mixed e

pub give_on-requires-clause-gains : goal.give_on-requires-clause-gains
give_on-requires-clause-gains c =
    let e = c.index-as_slice-r.is ∙ ap (λ qs. get_or qs (get_or c.args.order.now c.loop-r.r-index 0) c.index-as_slice-r.result) c.as_slice.ensures.items in
    let wide = two_wide c.args.s.now c.requires.valid c.args.order.now c.requires.order c.args.places.now c.args.inputs.now c.order_mixes.ensures c.along_goes_on.ensures c.loop-r.r-index c.loop-r-test.true c.index-as_slice-r.result c.loop-r.inputs c.loop-r.posts c.loop-r.sums c.loop-r.invariant.mixed e in
    omega (arith, wide, c.loop-r.invariant.gains, c.requires.gains)

pub give_on-requires-clause-input : goal.give_on-requires-clause-input
give_on-requires-clause-input c =
    let e = c.index-as_slice-r.is ∙ ap (λ qs. get_or qs (get_or c.args.order.now c.loop-r.r-index 0) c.index-as_slice-r.result) c.as_slice.ensures.items in
    let here = inside c.args.s.now c.requires.valid c.args.order.now c.requires.order c.args.places.now c.args.inputs.now c.order_mixes.ensures c.along_goes_on.ensures c.loop-r.r-index c.loop-r-test.true c.index-as_slice-r.result c.loop-r.inputs c.loop-r.posts c.loop-r.sums c.loop-r.invariant.mixed e in
    ap length (get_or-set_same c.loop-r.inputs (get_or c.args.order.now c.loop-r.r-index 0) c.take_in.new.input c.index-inputs-r-in-loop-r.result (omega (arith, here, c.loop-r.invariant.mixed.input_sizes.all)))
    ∙ took_long c.args.s.now c.requires.valid c.args.order.now c.requires.order c.args.places.now c.args.inputs.now c.order_mixes.ensures c.along_goes_on.ensures c.loop-r.r-index c.loop-r-test.true c.index-as_slice-r.result c.loop-r.inputs c.loop-r.posts c.loop-r.sums c.loop-r.invariant.mixed e c.take_in.new.input (took c.args.s.now c.requires.valid c.args.order.now c.requires.order c.args.places.now c.args.inputs.now c.order_mixes.ensures c.along_goes_on.ensures c.loop-r.r-index c.loop-r-test.true c.index-as_slice-r.result c.loop-r.inputs c.loop-r.posts c.loop-r.sums c.loop-r.invariant.mixed e c.index-sums-r.result c.index-inputs-r.result c.take_in.new.input c.take_in.ensures)

pub give_on-requires-clause-post : goal.give_on-requires-clause-post
give_on-requires-clause-post c =
    let e = c.index-as_slice-r.is ∙ ap (λ qs. get_or qs (get_or c.args.order.now c.loop-r.r-index 0) c.index-as_slice-r.result) c.as_slice.ensures.items in
    post_long c.args.s.now c.requires.valid c.args.order.now c.requires.order c.args.places.now c.args.inputs.now c.order_mixes.ensures c.along_goes_on.ensures c.loop-r.r-index c.loop-r-test.true c.index-as_slice-r.result c.loop-r.inputs c.loop-r.posts c.loop-r.sums c.loop-r.invariant.mixed e c.index-posts-r.result

pub give_on-requires-clause-small : goal.give_on-requires-clause-small
give_on-requires-clause-small c =
    let e = c.index-as_slice-r.is ∙ ap (λ qs. get_or qs (get_or c.args.order.now c.loop-r.r-index 0) c.index-as_slice-r.result) c.as_slice.ensures.items in
    still_small c.args.s.now c.requires.valid c.args.order.now c.requires.order c.args.places.now c.args.inputs.now c.order_mixes.ensures c.along_goes_on.ensures c.loop-r.r-index c.loop-r-test.true c.index-as_slice-r.result c.loop-r.inputs c.loop-r.posts c.loop-r.sums c.loop-r.invariant.mixed e

pub loop-r-preserved : goal.loop-r-preserved
loop-r-preserved c =
    let e = c.index-as_slice-r.is ∙ ap (λ qs. get_or qs (get_or c.args.order.now c.loop-r.r-index 0) c.index-as_slice-r.result) c.as_slice.ensures.items in
    let here = inside c.args.s.now c.requires.valid c.args.order.now c.requires.order c.args.places.now c.args.inputs.now c.order_mixes.ensures c.along_goes_on.ensures c.loop-r.r-index c.loop-r-test.true c.index-as_slice-r.result c.loop-r.inputs c.loop-r.posts c.loop-r.sums c.loop-r.invariant.mixed e in
    let took_in = took c.args.s.now c.requires.valid c.args.order.now c.requires.order c.args.places.now c.args.inputs.now c.order_mixes.ensures c.along_goes_on.ensures c.loop-r.r-index c.loop-r-test.true c.index-as_slice-r.result c.loop-r.inputs c.loop-r.posts c.loop-r.sums c.loop-r.invariant.mixed e c.index-sums-r.result c.index-inputs-r.result c.take_in.new.input c.take_in.ensures in
    let there = get_or-set_same c.loop-r.inputs (get_or c.args.order.now c.loop-r.r-index 0) c.take_in.new.input c.index-inputs-r-in-loop-r.result (omega (arith, here, c.loop-r.invariant.mixed.input_sizes.all)) in
    record {
      mixed = subst (λ x. IsMixedTo c.args.s.now c.args.places.now c.args.inputs.now c.args.order.now (c.loop-r.r-index + 1) (set c.loop-r.inputs (get_or c.args.order.now c.loop-r.r-index 0) x)
          (set c.loop-r.posts (get_or c.args.order.now c.loop-r.r-index 0) c.give_on.new.post) c.give_on.new.sums) (sym took_in)
          (one_turn c.args.s.now c.requires.valid c.args.order.now c.requires.order c.args.places.now c.args.inputs.now c.order_mixes.ensures c.along_goes_on.ensures c.loop-r.r-index c.loop-r-test.true c.index-as_slice-r.result c.loop-r.inputs c.loop-r.posts c.loop-r.sums c.loop-r.invariant.mixed e c.give_on.new.post c.give_on.new.sums
          (subst (λ x. IsGiven c.args.s.now (any_solo (routes_of c.args.s.now)) c.index-as_slice-r.result c.args.places.now x c.give_on.new.post c.loop-r.sums c.give_on.new.sums) (there ∙ took_in)
          (subst (λ b. IsGiven c.args.s.now b c.index-as_slice-r.result c.args.places.now
          (get_or (set c.loop-r.inputs (get_or c.args.order.now c.loop-r.r-index 0) c.take_in.new.input) (get_or c.args.order.now c.loop-r.r-index 0) c.index-inputs-r-in-loop-r.result) c.give_on.new.post c.loop-r.sums c.give_on.new.sums) c.any_solo-solo.ensures c.give_on.ensures.given))
          c.give_on.ensures.sizes c.give_on.ensures.small);
      gains = c.give_on.ensures.gains ∙ c.loop-r.invariant.gains;
    }

pub returns-clause-inputs : goal.returns-clause-inputs
returns-clause-inputs c = all_inputs c.args.s.now c.requires.valid c.args.order.now c.requires.order c.args.places.now c.args.inputs.now c.loop-r.r-index c.loop-r.inputs c.loop-r.posts c.loop-r.sums (omega arith) c.loop-r.invariant.mixed

pub returns-clause-posts : goal.returns-clause-posts
returns-clause-posts c = all_posts c.args.s.now c.requires.valid c.args.order.now c.requires.order c.args.places.now c.args.inputs.now c.loop-r.r-index c.loop-r.inputs c.loop-r.posts c.loop-r.sums (omega arith) c.loop-r.invariant.mixed
