use Rattle.std.proofs.Common.{◌≡◌, ◌≤◌, length, ap, arith}
use Rattle.report_reader.proofs.AnswerLemmas.{takes_more}
use Rattle.report_reader.proofs.CutLemmas.{few_lines}
use Rattle.report_reader.proofs.report.read.Goals as goal

pub returns-clause-memory : goal.returns-clause-memory
returns-clause-memory c =
    let all = c.args.bytes.now in
    let begun : length c.of-lines.result.rest.now ≡ length all = ap length c.of-lines.ensures.rest in
    let few : c.left.result ≤ length all = omega (arith, c.left.ensures, few_lines c.read_head.new.lines.rest.now, c.in_ok-head.ensures.left, c.in_ok-first_line.ensures.left, begun) in
    c.read_items.ensures.memory (length all) (takes_more c.left.result (length all) c.in_ok-report.report few c.in_ok-report.ensures.memory)
