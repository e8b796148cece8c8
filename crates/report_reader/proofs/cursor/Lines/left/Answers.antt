use Rattle.std.proofs.Common.{◌==◌, ◌∙◌, rules, tests}
use Rattle.std.proofs.lemmas.Iterator.{YieldsList-from_slice}
use Rattle.std.proofs.lemmas.Iterator.Consumers.{YieldsList-from_filter, count_from_yields_List}
use Rattle.report_reader.proofs.CutLemmas.{length_lines}
use Rattle.report_reader.proofs.cursor.Lines.left.Goals as goal

pub returns : goal.returns
returns c =
    count_from_yields_List c.filter.result c.count.result c.count.ensures.ran (YieldsList-from_filter _ (λ b. b == 10) (YieldsList-from_slice c.args.self.now.rest.now cc) c.filter.ensures.closure (λ x r q k. search (rules, tests)))
    ∙ length_lines c.args.self.now.rest.now
