use Rattle.std.proofs.Common.{length, sym, ap, ◌∙◌}
use Rattle.report_reader.specs.Items.{item_in}
use Rattle.report_reader.proofs.ReadingLemmas.{entries_seen}
use Rattle.report_reader.proofs.report.Report.said.Goals as goal

pub returns : goal.returns
returns c = let r = c.args.self.now in let line = c.args.line.now in
    c.next_item.ensures ∙ ap (λ n. item_in n c.len-edits.result (length c.entries.result.now) line) c.from.ensures
    ∙ ap (λ n. item_in r.head.cycles n (length c.entries.result.now) line) c.len-edits.ensures.len
    ∙ ap (λ n. item_in r.head.cycles (length r.edits.items) n line) (ap length c.entries.ensures.entries ∙ sym (entries_seen r))
