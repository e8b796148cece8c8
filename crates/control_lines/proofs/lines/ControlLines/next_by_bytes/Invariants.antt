-- A line is begun, of the bytes that were taken since the call began.
use Rattle.control_lines.specs.Lines.{allowance}
use Rattle.control_lines.proofs.LineLemmas.{IsReading}
use Rattle.control_lines.proofs.lines.ControlLines.next_by_bytes.Given as goal

abbrev pub invariant-loop-byte : goal.invariant-loop-byte
invariant-loop-byte g l = IsReading g.C.Source.outside l.fn.self l.self l.line.kept l.line.many l.line.more

abbrev pub decreases-loop-byte : goal.decreases-loop-byte
decreases-loop-byte g l = allowance l.self
