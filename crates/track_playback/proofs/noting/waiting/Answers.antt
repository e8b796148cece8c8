use Rattle.std.proofs.Common.{◌∙◌, ap, arith, map}
use Rattle.engine_model.specs.Cycle.{waiting, has_piece}
use Rattle.track_playback.specs.SpareBoxes.{received_kinds}
use Rattle.track_playback.proofs.HeardLemmas.{ring_of, there_by_all, tail_is}
use Rattle.track_playback.proofs.NotingLemmas.{waiting_more, waiting_here, none_waits}
use Rattle.track_playback.proofs.noting.waiting.Goals as goal

pub is_there-requires : goal.is_there-requires
is_there-requires g c =
    (ring_of c.args.at g.plays c.args.playbacks.now c.loop-t.t c.index-playbacks-t.result c.requires.0 c.loop-t-test.true c.index-playbacks-t.is).heard.played.until

pub returns-then-not-is_there : goal.returns-then-not-is_there
returns-then-not-is_there g c = let l = c.loop-t in let at = c.args.at in let all = c.requires.0 in let d = c.index-playbacks-t.result in
    waiting_here at g.plays c.args.playbacks.now l.t d.tail c.is_there.result (waiting at.generation 0 (map received_kinds g.plays)) d all c.loop-t-test.true c.index-playbacks-t.is
    (λ r is. there_by_all at r d all.some is c.is_there.result (c.is_there.ensures is.played.shows.given is.played.shows.window)
    ∙ ap (λ n. has_piece at.generation n (received_kinds r)) c.requires.1.1)
    (grind (arith, c.if-not-is_there.true)) (λ r is. tail_is at r d all.some is) l.invariant

pub loop-t-preserved : goal.loop-t-preserved
loop-t-preserved g c = let l = c.loop-t in let at = c.args.at in let all = c.requires.0 in let d = c.index-playbacks-t.result in
    waiting_more at g.plays c.args.playbacks.now l.t c.is_there.result (waiting at.generation 0 (map received_kinds g.plays)) d all c.loop-t-test.true c.index-playbacks-t.is
    (λ r is. there_by_all at r d all.some is c.is_there.result (c.is_there.ensures is.played.shows.given is.played.shows.window)
    ∙ ap (λ n. has_piece at.generation n (received_kinds r)) c.requires.1.1)
    (grind (arith, c.if-not-is_there.false)) l.invariant

pub returns : goal.returns
returns g c = let l = c.loop-t in let at = c.args.at in
    none_waits at.generation l.t (waiting at.generation 0 (map received_kinds g.plays)) g.plays (omega (arith, c.loop-t-test.false, c.requires.0.count)) l.invariant
