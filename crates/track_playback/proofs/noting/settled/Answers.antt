use Rattle.std.proofs.Common.{◌+◌, ◌∙◌, ap, arith, map}
use Rattle.engine_model.specs.Cycle.{settled_number}
use Rattle.track_playback.specs.SpareBoxes.{received_kinds}
use Rattle.track_playback.proofs.HeardLemmas.{ring_of, settled_by_all}
use Rattle.track_playback.proofs.NotingLemmas.{left, settled_more, settled_all}
use Rattle.track_playback.proofs.noting.settled.Goals as goal

pub settled-requires : goal.settled-requires
settled-requires g c =
    (ring_of c.args.at g.plays c.args.playbacks.now c.loop-playback.playback-index c.playback-item.result c.requires c.loop-playback-test.true c.playback-item.is).heard.played.until

pub loop-playback-preserved : goal.loop-playback-preserved
loop-playback-preserved g c = let l = c.loop-playback in let at = c.args.at in let all = c.requires in
    ap (λ n. settled_number n at.generation at.next (left g.plays (l.playback-index + 1))) c.min-least.ensures
    ∙ settled_more at g.plays c.args.playbacks.now l.playback-index l.least c.settled.result (settled_number c.args.number at.generation at.next (map received_kinds g.plays)) c.playback-item.result
    all c.loop-playback-test.true c.playback-item.is
    (λ r is. settled_by_all at r c.playback-item.result all.some is c.settled.result (c.settled.ensures is.played.shows.given is.played.shows.window)) l.invariant

pub returns : goal.returns
returns g c = let l = c.loop-playback in let at = c.args.at in let all = c.requires in
    settled_all at.generation at.next l.least l.playback-index (settled_number c.args.number at.generation at.next (map received_kinds g.plays)) g.plays (omega (arith, c.loop-playback-test.false, all.count)) l.invariant
