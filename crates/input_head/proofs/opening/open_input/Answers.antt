use Rattle.input_head.proofs.StepLemmas.{fits_told, misfit_told}
use Rattle.input_head.proofs.opening.open_input.Goals as goal

pub returns-in-Ok-fitting-clause-told : goal.returns-in-Ok-fitting-clause-told
returns-in-Ok-fitting-clause-told g c = λ t. fits_told c.args.session.now _ _ c.in-Ok.info c.in-Ok-fitting.info (c.in-Ok.ensures.told t) c.in-Ok-fitting.ensures.fitting

pub returns-in-Err-clause-told : goal.returns-in-Err-clause-told
returns-in-Err-clause-told g c = λ t. misfit_told c.args.session.now _ _ c.in-Ok.info _ (c.in-Ok.ensures.told t) c.in-Err.ensures.fitting
