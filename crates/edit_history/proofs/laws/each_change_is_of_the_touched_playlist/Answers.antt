-- The law as its lemma has it.
use Rattle.edit_history.proofs.LawLemmas as lemmas
use Rattle.edit_history.proofs.laws.each_change_is_of_the_touched_playlist.Goals as goal

pub returns : goal.returns
returns c = lemmas.each_change_is_of_the_touched_playlist
