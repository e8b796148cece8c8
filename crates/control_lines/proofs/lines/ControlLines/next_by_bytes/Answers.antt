use Rattle.std.specs.Prelude.{Some}
use Rattle.control_lines.proofs.LineLemmas.{front_of, whole_line, ended_of, after_a_fault}
use Rattle.control_lines.proofs.CutLemmas.{cuts_of}
use Rattle.control_lines.proofs.lines.ControlLines.next_by_bytes.Goals as goal

pub returns-in_err-byte-clause-cut : goal.returns-in_err-byte-clause-cut
returns-in_err-byte-clause-cut g c = after_a_fault c.from_residual.result (front_of g.C.Source.outside c.loop-byte.invariant c.in_err-byte.ensures.none)

pub returns-then-byte-eq10-clause-cuts : goal.returns-then-byte-eq10-clause-cuts
returns-then-byte-eq10-clause-cuts g c = λ t. cuts_of g.C.Source.outside t _ c.byte.new.self (Some c.ended.result) (whole_line g.C.Source.outside c.byte.new.self c.loop-byte.invariant _ _ c.ended.result c.in-Some.is
    c.if-byte-eq10.true c.in_ok-byte.ensures.takes (c.ended.ensures _ c.loop-byte.invariant.begun))

pub returns-clause-line : goal.returns-clause-line
returns-clause-line g c = ended_of g.C.Source.outside c.byte.new.self c.loop-byte.invariant _ _ c.in_default.is c.in_ok-byte.ensures.takes (c.last.ensures _ c.loop-byte.invariant.begun)

pub returns-clause-cuts : goal.returns-clause-cuts
returns-clause-cuts g c = λ t. cuts_of g.C.Source.outside t _ c.byte.new.self c.last.result (ended_of g.C.Source.outside c.byte.new.self c.loop-byte.invariant _ _ c.in_default.is c.in_ok-byte.ensures.takes
    (c.last.ensures _ c.loop-byte.invariant.begun))
