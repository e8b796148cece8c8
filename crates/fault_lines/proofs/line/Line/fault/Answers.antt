use Rattle.std.proofs.Common.{List, ℕ, Some, ◌++◌, ap, sym, ◌∙◌, codes, decimal}
use Rattle.std.specs.Option.{option_map}
use Rattle.cycle_journal.specs.declared.status.Status.{Status}
use Rattle.fault_lines.specs.Fault.{fault_words}
use Rattle.fault_lines.proofs.PieceLemmas.{then_more}
use Rattle.fault_lines.proofs.line.Line.fault.Goals as goal

pub returns-in-BadReport-clause-bytes : goal.returns-in-BadReport-clause-bytes
returns-in-BadReport-clause-bytes c =
    ap Some (then_more c.args.self.text.bytes (codes "bad-report ") (decimal c.in-BadReport.line) c.word-in-BadReport.ensures.bytes c.number-in-BadReport.ensures.bytes)
    ∙ ap (λ (status : Status). option_map (λ (words : List ℕ). c.args.self.text.bytes ++ words) (fault_words status)) (sym c.in-BadReport.is)
