use Rattle.butler.proofs.SourceLemmas as laws
use Rattle.butler.proofs.laws.sources_are_no_takes.Goals as goal

pub returns : goal.returns
returns c = laws.sources_are_no_takes
