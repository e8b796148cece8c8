use Rattle.std.proofs.Common.{◌-◌, arith}
use Rattle.track_playback.proofs.PlaybacksLemmas.{asked_from, asked_missing, asked_until}
use Rattle.track_playback.proofs.playbacks.all_there.Goals as goal

pub is_there-requires : goal.is_there-requires
is_there-requires c = let l = c.loop-left in
    asked_until c.args.at c.args.plays.now c.args.playbacks.now c.requires (l.left - 1) c.index-playbacks-left.result (omega (arith, l.invariant.0, c.loop-left-test.true, c.requires.count)) c.index-playbacks-left.is

pub returns-then-not-is_there-clause-missing : goal.returns-then-not-is_there-clause-missing
returns-then-not-is_there-clause-missing c = λ no. let l = c.loop-left in
    asked_missing c.args.at c.args.plays.now c.args.playbacks.now c.requires (l.left - 1) c.index-playbacks-left.result (omega (arith, l.invariant.0, c.loop-left-test.true, c.requires.count)) c.index-playbacks-left.is
    c.is_there.result c.is_there.ensures c.if-not-is_there.true

pub loop-left-preserved : goal.loop-left-preserved
loop-left-preserved c = let l = c.loop-left in (
  omega (arith, l.invariant.0),
  asked_from c.args.at c.args.plays.now c.args.playbacks.now c.requires (l.left - 1) c.index-playbacks-left.result (omega (arith, l.invariant.0, c.loop-left-test.true, c.requires.count)) c.index-playbacks-left.is
      c.is_there.result c.is_there.ensures c.if-not-is_there.false l.left (omega (arith, c.loop-left-test.true)) l.invariant.1,
)
