use Rattle.route_mix.proofs.GivingLemmas.{IsSentSoFar}
use Rattle.route_mix.proofs.feeds.pass_on.Given as goal

-- all are fed what the output and the sends so far give
abbrev pub invariant-loop-send : goal.invariant-loop-send
invariant-loop-send l = IsSentSoFar l.s l.route l.input l.post l.send-index l.fn.sums l.sums
