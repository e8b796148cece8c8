use Rattle.std.proofs.Common.{◌∙◌, ap, arith}
use Rattle.control_lines.specs.Lines.{LinesState}
use Rattle.control_lines.proofs.LineLemmas.{fetched, fetched_by}
use Rattle.control_lines.proofs.lines.ControlLines.fetch.Goals as goal

pub returns-clause-takes : goal.returns-clause-takes
returns-clause-takes g c = fetched_by g.C.Source.outside c.self.view_is
    (fetched g.C.Source.outside _ c.read_front.new.source c.read_front.new.piece c.in_ok-read.read
    (ap (λ (s : LinesState g.row.C.Denot). s.waiting) c.self.view_is ∙ c.requires)
    (omega (arith, c.in_ok-read.ensures.bound, c.min-most.ensures)) (omega (arith, c.in_ok-read.ensures.bound, c.min-most.ensures, c.in_ok-read.ensures.long)) c.in_ok-read.ensures.takes)
