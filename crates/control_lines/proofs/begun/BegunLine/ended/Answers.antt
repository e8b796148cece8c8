use Rattle.std.proofs.Common.{◌∙◌, ap}
use Rattle.edit_script.specs.Reading.{said}
use Rattle.control_lines.specs.Begun.{bare}
use Rattle.control_lines.proofs.BegunLemmas.{all_of, long_said, still_long, more_is}
use Rattle.control_lines.proofs.begun.BegunLine.ended.Goals as goal

pub returns-then-self : goal.returns-then-self
returns-then-self c = λ line is. long_said _ (still_long line (more_is line _ _ _ is c.if-self.true))

pub returns : goal.returns
returns c = λ line is. c.said_before_feed.ensures ∙ ap (λ xs. said (bare xs)) (all_of line _ _ _ is c.if-self.false)
