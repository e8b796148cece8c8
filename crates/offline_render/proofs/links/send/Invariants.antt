use Rattle.std.proofs.Common.{◌*◌, take, map}
use Rattle.mix_kernel.specs.Bounds.{GoesOn}
use Rattle.session_model.specs.Views.{send_of}
use Rattle.route_graph.specs.Walks.{plain}
use Rattle.offline_render.specs.Links.{sent_at, AreGiven}
use Rattle.offline_render.proofs.links.send.Given as goal

-- what the sends so far give is in the sums
abbrev pub invariant-loop-link : goal.invariant-loop-link
invariant-loop-link l = record {
  sums : AreGiven l.fn.s (λ r. sent_at l.fn.s l.c (plain l.fn.q) r l.taps (map send_of (take l.link-index l.sends))) l.initial.sums l.sums;
  near : GoesOn (l.link-index * 34359738368) l.initial.sums l.sums;
}
