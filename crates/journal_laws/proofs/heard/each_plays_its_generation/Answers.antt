-- The law as its lemma has it.
use Rattle.journal_laws.proofs.NeverBackLemmas as lemmas
use Rattle.journal_laws.proofs.heard.each_plays_its_generation.Goals as goal

-- src/heard.rt
pub returns : goal.returns
returns c = lemmas.each_plays_its_generation
