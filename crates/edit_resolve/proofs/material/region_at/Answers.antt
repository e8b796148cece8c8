use Rattle.std.proofs.Common.{Some, None, sym, ◌∙◌}
use Rattle.edit_resolve.proofs.StandingLemmas.{region_at_is}
use Rattle.edit_resolve.proofs.material.region_at.Goals as goal

pub returns-in-Some : goal.returns-in-Some
returns-in-Some c = sym (region_at_is c.args.s.now c.args.track c.args.id (Some c.in-Some.region.now) c.regions.result.now c.in-Some.ensures
    (c.regions.ensures.regions ∙ c.playlist.ensures))

pub returns-in-None : goal.returns-in-None
returns-in-None c = sym (region_at_is c.args.s.now c.args.track c.args.id None c.regions.result.now c.in-None.ensures
    (c.regions.ensures.regions ∙ c.playlist.ensures))
