use Rattle.std.proofs.Common.{ℕ, ◌++◌, ap, sym, ◌∙◌, codes, decimal}
use Rattle.session_model.specs.declared.refusal.SessionRefusal.{SessionRefusal}
use Rattle.fault_lines.specs.Session.{session_words}
use Rattle.fault_lines.proofs.PieceLemmas.{then_more}
use Rattle.fault_lines.proofs.line.Line.session.Goals as goal

pub returns-in-SendTwice-clause-bytes : goal.returns-in-SendTwice-clause-bytes
returns-in-SendTwice-clause-bytes c =
    then_more c.args.self.text.bytes (codes "send-twice ") c.in-SendTwice.name c.word-in-SendTwice.ensures.bytes c.name-in-SendTwice.ensures.bytes
    ∙ ap (λ (why : SessionRefusal). c.args.self.text.bytes ++ session_words why) (sym c.in-SendTwice.is)

pub returns-in-RegionTwice-clause-bytes : goal.returns-in-RegionTwice-clause-bytes
returns-in-RegionTwice-clause-bytes c =
    let name = c.in-RegionTwice.name in
    let id = c.in-RegionTwice.id in
    let line = c.word-in-RegionTwice.result.text.bytes in
    let spaced = c.word-in-RegionTwice-2.result.text.bytes in
    let numbered = c.number-in-RegionTwice.ensures.bytes ∙ ap (λ (n : ℕ). spaced ++ decimal n) c.from.ensures in
    let from_line = then_more line name (codes " ") c.name-line.ensures.bytes c.word-in-RegionTwice-2.ensures.bytes in
    let whole = then_more line (name ++ codes " ") (decimal id) from_line numbered in
    then_more c.args.self.text.bytes (codes "region-twice ") (name ++ codes " " ++ decimal id) c.word-in-RegionTwice.ensures.bytes whole
    ∙ ap (λ (why : SessionRefusal). c.args.self.text.bytes ++ session_words why) (sym c.in-RegionTwice.is)
