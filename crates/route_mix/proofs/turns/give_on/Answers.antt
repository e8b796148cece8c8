use Rattle.std.proofs.Common.{◌≡◌, ap, sym, ◌∙◌, subst, rules}
use Rattle.route_mix.specs.Blocks.{silence}
use Rattle.route_mix.specs.Faders.{IsFaded}
use Rattle.route_mix.specs.Feeds.{IsGivenOn, all_out}
use Rattle.route_mix.specs.Turns.{IsGiven}
use Rattle.route_mix.proofs.QuietLemmas.{closed_turn, silent_turn, open_turn}
use Rattle.route_mix.proofs.turns.give_on.Goals as goal

pub returns-then-not-is_open-clause-given : goal.returns-then-not-is_open-clause-given
returns-then-not-is_open-clause-given c =
    subst (λ p. IsGiven c.args.s.now c.args.solo c.args.route.now c.args.places.now c.args.input.now p c.args.sums.now c.args.sums.now) (sym (c.hush.ensures ∙ ap silence c.requires.post))
    (closed_turn c.args.s.now c.requires.formed c.requires.route.0 c.args.route.now c.requires.route.1 c.args.solo c.args.places.now c.args.input.now c.args.sums.now
    (sym c.is_open.ensures ∙ c.if-not-is_open.true))

pub returns-in-None-clause-given : goal.returns-in-None-clause-given
returns-in-None-clause-given c =
    subst (λ p. IsGiven c.args.s.now c.args.solo c.args.route.now c.args.places.now c.args.input.now p c.args.sums.now c.args.sums.now) (sym (c.hush-in-None.ensures ∙ ap silence c.requires.post))
    (silent_turn c.args.s.now c.requires.formed c.requires.route.0 c.args.route.now c.requires.route.1 c.args.solo c.args.places.now c.args.input.now c.args.sums.now
    (c.in-None.ensures.silent ∙ ap silence c.requires.input))

pub returns-in-Some-clause-given : goal.returns-in-Some-clause-given
returns-in-Some-clause-given c =
    let heard : c.in-Some.samples.now ≡ c.args.input.now = search rules in
    open_turn c.args.s.now c.requires.formed c.requires.route.0 c.args.route.now c.requires.route.1 c.args.solo c.args.places.now c.args.input.now c.args.sums.now c.fade.new.post c.pass_on.new.sums
    (sym c.is_open.ensures ∙ c.if-not-is_open.false) c.requires.places
    (subst (λ ss. IsFaded c.args.route.now c.args.places.now ss c.fade.new.post) heard c.fade.ensures.faded)
    (subst (λ ss. IsGivenOn c.args.s.now c.args.route.now ss c.fade.new.post (all_out c.args.s.now c.args.route.now) c.args.sums.now c.pass_on.new.sums) heard
    (subst (λ p. IsGivenOn c.args.s.now c.args.route.now c.in-Some.samples.now p (all_out c.args.s.now c.args.route.now) c.args.sums.now c.pass_on.new.sums) c.shown.ensures c.pass_on.ensures.given))
