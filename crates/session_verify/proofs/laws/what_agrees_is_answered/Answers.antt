use Rattle.session_verify.proofs.AnswerLemmas as answer
use Rattle.session_verify.proofs.laws.what_agrees_is_answered.Goals as goal

pub returns : goal.returns
returns c = answer.what_agrees_is_answered c.what_agrees_is_verified.ensures c.open_is_valid.ensures
