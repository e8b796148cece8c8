use Rattle.std.proofs.Common.{◌≡◌, ℕ, ◌∙◌, length, get_or, set, ap, sym, subst, arith, rules, FitsSigned, w64}
use Rattle.std.specs.Prelude.{ℤ, pos, ◌+ℤ◌}
use Rattle.std.proofs.lemmas.Int.{to_z-of_z}
use Rattle.std.proofs.lemmas.List.Elements.{All-get_or}
use Rattle.sound_model.specs.Routes as sound
use Rattle.mix_kernel.specs.Bounds.{IsNear, GoesOn}
use Rattle.route_graph.specs.Walks.{plain}
use Rattle.offline_render.specs.Links.{own}
use Rattle.offline_render.proofs.RouteLemmas.{channels_read}
use Rattle.offline_render.proofs.SumLemmas.{added, one_goes_on}
use Rattle.offline_render.proofs.links.add.Goals as goal

pub returns-clause-sums : goal.returns-clause-sums
returns-clause-sums c =
    let a : ℤ = get_or c.args.sums.now c.args.to (pos 0) in
    let near : IsNear 1125899906842624 a = All-get_or (IsNear 1125899906842624) c.args.sums.now c.args.to (pos 0) (omega arith) c.requires.near in
    let channels = channels_read c.args.s.now c.as_slice.result.now c.args.to c.index-as_slice-to.result c.as_slice.ensures.items (omega (arith, ap length c.as_slice.ensures.items)) c.index-as_slice-to.is in
    let fits : FitsSigned w64 c.args.value = search rules in
    let read : ℕ = (get_or c.as_slice.result.now c.args.to c.index-as_slice-to.result).channels in
    let value : c.given.result ≡ sound.given (plain c.args.q.now) read (own read c.args.c) (λ k. c.args.value) = simp to_z-of_z at c.given.ensures.value in
    ap (set c.args.sums.now c.args.to) (added a c.given.result near c.given.ensures.near ∙ ap (λ v. a +ℤ v) (value ∙ ap (λ n. sound.given (plain c.args.q.now) n (own n c.args.c) (λ k. c.args.value)) (sym (channels ∙ ap (λ q. q.channels) c.index-as_slice-to.is))))

pub returns-clause-near : goal.returns-clause-near
returns-clause-near c =
    let a : ℤ = get_or c.args.sums.now c.args.to (pos 0) in
    let near : IsNear 1125899906842624 a = All-get_or (IsNear 1125899906842624) c.args.sums.now c.args.to (pos 0) (omega arith) c.requires.near in
    subst (λ v. GoesOn 34359738368 c.args.sums.now (set c.args.sums.now c.args.to v)) (sym (added a c.given.result near c.given.ensures.near))
    (one_goes_on c.args.sums.now c.args.to 34359738368 c.given.result (omega arith) c.given.ensures.near)
