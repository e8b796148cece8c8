use Rattle.std.proofs.Common.{◌≡◌, ◌+◌, ◌-◌, ◌<◌, ◌∷◌, length, take, drop, sym, ap, ◌∙◌, arith, length-drop, take_all}
use Rattle.report_reader.specs.Reading.{lines_of}
use Rattle.report_reader.proofs.CutLemmas.{no_line, next_line}
use Rattle.report_reader.proofs.cursor.Lines.next.Goals as goal

pub returns-then-length-self-clause-line : goal.returns-then-length-self-clause-line
returns-then-length-self-clause-line c = no_line c.args.self.now.rest.now c.line_length-length.result c.line_length-length.ensures.count c.if-length-self.true

pub returns-clause-line : goal.returns-clause-line
returns-clause-line c =
    let bytes = c.args.self.now.rest.now in let k = c.line_length-length.result in
    let some : k < length bytes = omega (arith, c.line_length-length.ensures.within, c.if-length-self.false) in
    let rest : drop (k + 1) bytes ≡ take (length bytes - (k + 1)) (drop (k + 1) bytes) =
    sym (take_all (length bytes - (k + 1)) (drop (k + 1) bytes) (omega (arith, length-drop (k + 1) bytes))) in
    next_line bytes k c.line_length-length.ensures.count some ∙ ap (λ r. take k bytes ∷ lines_of r) rest
