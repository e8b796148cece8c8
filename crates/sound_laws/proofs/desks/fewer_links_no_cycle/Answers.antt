-- The law is the lemma.
use Rattle.sound_laws.proofs.ReachLaws
use Rattle.sound_laws.proofs.desks.fewer_links_no_cycle.Goals as goal

pub returns : goal.returns
returns c = ReachLaws.fewer_links_no_cycle
