-- The law as its lemma has it.
use Rattle.journal_laws.proofs.NeverBackLemmas as lemmas
use Rattle.journal_laws.proofs.heard.nothing_goes_back.Goals as goal

-- src/heard.rt
pub returns : goal.returns
returns c = lemmas.nothing_goes_back
