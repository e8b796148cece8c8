use Rattle.run_rings.proofs.LawLemmas.{new_fit}
use Rattle.run_rings.proofs.laws.new_ends_fit.Goals as goal

-- src/laws.rt
pub returns : goal.returns
returns c = new_fit
