use Rattle.std.proofs.Common.{◌∙◌, sym}
use Rattle.read_ahead.proofs.ServeLemmas.{shut_total}
use Rattle.read_ahead.proofs.serving.send_all.Goals as goal

pub returns-in-Err-clause-at_hand : goal.returns-in-Err-clause-at_hand
returns-in-Err-clause-at_hand g c = λ hand same. c.serve_all.ensures.at_hand hand (sym (shut_total _ _ c.close_all.ensures) ∙ same)

pub returns-in-Ok-clause-goes : goal.returns-in-Ok-clause-goes
returns-in-Ok-clause-goes g c = (c.serve_all.ensures.serves, c.in-Ok.ensures.answer)

pub returns-in-Ok-clause-some : goal.returns-in-Ok-clause-some
returns-in-Ok-clause-some g c = tt

pub returns-in-Ok-clause-read : goal.returns-in-Ok-clause-read
returns-in-Ok-clause-read g c = c.in-Ok.ensures.read
