use Rattle.worker_pair.proofs.pair.Pair.meet.Goals as goal

-- src/playing.rt
pub returns-clause-meets : goal.returns-clause-meets
returns-clause-meets g c = let did = c.meet_plays.ensures in record { ends = did.meets.ends; butler = did.same; process_is = did.meets.same }

pub returns-clause-playing : goal.returns-clause-playing
returns-clause-playing g c = c.meet_plays.ensures.meets.playing g.at

pub returns-clause-looked : goal.returns-clause-looked
returns-clause-looked g c = c.meet_plays.ensures.meets.looked g.at

pub returns-clause-master : goal.returns-clause-master
returns-clause-master g c = c.meet_plays.ensures.meets.master g.at
