use Rattle.edit_resolve.proofs.StandingLemmas.{closes_is}
use Rattle.edit_resolve.proofs.standing.closes.Goals as goal

pub returns : goal.returns
returns c = closes_is c.args.s.now c.args.from c.args.to c.closes.result c.closes.ensures
