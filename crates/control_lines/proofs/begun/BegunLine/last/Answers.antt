use Rattle.std.proofs.Common.{◌∙◌, ap, arith}
use Rattle.edit_script.specs.Reading.{said}
use Rattle.control_lines.proofs.BegunLemmas.{all_of, last_of}
use Rattle.control_lines.proofs.begun.BegunLine.last.Goals as goal

pub returns : goal.returns
returns c = λ line is. last_of line _ (omega (arith, is.many_are, c.if-self-eq0.false)) (c.parse.ensures.said ∙ ap said (all_of line _ _ _ is c.if-self.false))
