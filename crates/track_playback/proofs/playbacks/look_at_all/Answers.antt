use Rattle.std.proofs.Common.{arith, rules}
use Rattle.track_playback.proofs.PlaybacksLemmas.{all_show, looked_more, looked_none, played_left}
use Rattle.track_playback.proofs.LookUpLemmas.{all_looked_up}
use Rattle.track_playback.proofs.playbacks.look_at_all.Goals as goal

pub look_at-requires-clause-played : goal.look_at-requires-clause-played
look_at-requires-clause-played c = let l = c.loop-t in
    played_left c.args.at c.args.plays.now c.args.playbacks.now l.plays l.playbacks l.t l.invariant c.requires.played (omega (arith, c.loop-t-test.true, c.requires.closed.count, l.invariant.playbacks, l.auto.t-end)) _ _

pub returns-clause-shows : goal.returns-clause-shows
returns-clause-shows c = let l = c.loop-t in
    all_show c.args.at c.args.plays.now c.args.playbacks.now l.plays l.playbacks l.t l.invariant c.requires.some c.requires.played c.requires.closed.count
    (omega (arith, c.loop-t-test.false, l.auto.t-end, l.invariant.playbacks))

pub returns-clause-looked_up : goal.returns-clause-looked_up
returns-clause-looked_up c = let l = c.loop-t in
    all_looked_up c.args.at c.args.plays.now c.args.playbacks.now l.plays l.playbacks l.t l.invariant
    (omega (arith, c.loop-t-test.false, c.requires.closed.count, l.invariant.playbacks)) (omega (arith, l.auto.t-end, l.invariant.playbacks))

pub loop-t-init : goal.loop-t-init
loop-t-init c = looked_none c.args.at c.args.plays.now c.args.playbacks.now

pub loop-t-preserved : goal.loop-t-preserved
loop-t-preserved c = let l = c.loop-t in
    looked_more c.args.at c.args.plays.now c.args.playbacks.now l.plays l.playbacks l.t l.invariant _ _ (omega (arith, c.loop-t-test.true, c.requires.closed.count, l.invariant.plays)) (omega (arith, c.loop-t-test.true, l.invariant.playbacks))
    (search rules)
