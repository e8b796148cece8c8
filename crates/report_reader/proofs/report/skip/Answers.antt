use Rattle.std.proofs.Common.{◌≡◌, true, false, bytes_eq, rules, refl, arith}
use Rattle.cycle_journal.specs.Report.{first_line}
use Rattle.report_reader.specs.Reading.{lines_of}
use Rattle.report_reader.proofs.ReadingLemmas.{skips, finds, finds_none}
use Rattle.report_reader.proofs.report.skip.Goals as goal

pub returns-then-eq-clause-goes : goal.returns-then-eq-clause-goes
returns-then-eq-clause-goes c =
    let first : bytes_eq c.in-Some.line.now first_line ≡ true = search rules in
    finds c.loop-line.lines.number c.next.new.self.number c.loop-line.number (lines_of c.loop-line.lines.rest.now) (lines_of c.next.new.self.rest.now) c.in-Some.line.now _
    c.loop-line.invariant.goes c.in-Some.ensures.line first c.in-Some.ensures.number c.loop-line.invariant.same

pub loop-line-preserved : goal.loop-line-preserved
loop-line-preserved c =
    let other : bytes_eq c.in-Some.line.now first_line ≡ false = search rules in
    record { goes = skips c.loop-line.lines.number c.next.new.self.number (lines_of c.loop-line.lines.rest.now) (lines_of c.next.new.self.rest.now) c.in-Some.line.now _ c.loop-line.invariant.goes c.in-Some.ensures.line other c.in-Some.ensures.number; same = refl; left = omega (arith, c.in-Some.ensures.shorter, c.loop-line.invariant.left) }

pub returns-clause-goes : goal.returns-clause-goes
returns-clause-goes c = finds_none c.loop-line.lines.number c.loop-line.number (lines_of c.loop-line.lines.rest.now) _ c.loop-line.invariant.goes c.in_default.ensures.line c.loop-line.invariant.same
