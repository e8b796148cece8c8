-- The law as its lemma has it.
use Rattle.journal_laws.proofs.ExportLemmas as lemmas
use Rattle.journal_laws.proofs.export.an_export_is_the_master.Goals as goal

-- src/export.rt
pub returns : goal.returns
returns c = lemmas.an_export_is_the_master
