use Rattle.std.proofs.Common.{◌∙◌, ap₂}
use Rattle.std.specs.List.{list_any}
use Rattle.session_model.specs.Views.{is_soloed}
use Rattle.route_mix.proofs.RouteLemmas.{solo_is_any}
use Rattle.route_mix.proofs.opening.any_solo.Goals as goal

pub returns : goal.returns
returns c = c.is_any_soloed.ensures ∙ ap₂ (λ tracks routes. list_any (λ q. is_soloed tracks q.kind) routes) c.as_slice.ensures.items c.as_slice-2.ensures.items
    ∙ solo_is_any c.args.s.now.tracks.items c.args.s.now.routes.items
