use Rattle.route_lists.proofs.RuleLemmas.{forks, merges}
use Rattle.route_lists.proofs.reading.ListReader.learn.Goals as goal

pub tell-note-requires : goal.tell-note-requires
tell-note-requires g c = forks _ _

pub learn-requires-clause-rule : goal.learn-requires-clause-rule
learn-requires-clause-rule g c = merges _ _ _ _
