use Rattle.std.proofs.Common.{refl}
use Rattle.control_lines.proofs.FeedLemmas.{borrowed, taken}
use Rattle.control_lines.proofs.lines.ControlLines.waiting_line.Goals as goal

pub returns-clause-line : goal.returns-clause-line
returns-clause-line g c = taken g.C.Source.outside _ _ _ _ _ c.self.inside.at c.in_ok-long.long _ _ c.self.view_is
    (borrowed c.self.inside.piece c.self.inside.at c.self.inside.end c.self.invariant.order) refl c.in_ok-long.ensures c.said_before_feed-answer.ensures
