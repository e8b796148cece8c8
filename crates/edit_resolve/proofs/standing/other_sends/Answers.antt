use Rattle.edit_resolve.proofs.StandingLemmas.{other_sends_is}
use Rattle.edit_resolve.proofs.standing.other_sends.Goals as goal

pub returns : goal.returns
returns c = other_sends_is c.args.s.now c.args.from c.args.to _ c.route.result.now c.as_slice.result.now c.route.ensures c.as_slice.ensures.items c.sends_elsewhere.ensures
