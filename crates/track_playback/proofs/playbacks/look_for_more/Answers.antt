use Rattle.std.proofs.Common.{sym, subst}
use Rattle.track_playback.specs.SpareBoxes.{HasRoom}
use Rattle.track_playback.proofs.PlaybackLemmas.{looks_at_more, looks_at_nothing}
use Rattle.track_playback.proofs.playbacks.look_for_more.Goals as goal

pub returns-then-is_empty : goal.returns-then-is_empty
returns-then-is_empty c = let p = c.requires.played.1 in let d = c.args.playback.now in
    looks_at_nothing c.args.at.now c.args.ring.now c.is_empty.new.self d c.requires.husk c.is_empty.ensures.ring (c.is_empty.ensures.empty c.if-is_empty.true)
    p.last (subst (λ n. HasRoom n d.spare) (sym p.window_room) p.spare) p.until p.tail c.requires.closed

pub returns : goal.returns
returns c = looks_at_more c.args.at.now c.args.ring.now c.is_empty.new.self c.look.new.ring c.args.playback.now c.look.new.self c.is_empty.ensures.ring (c.is_empty.ensures.more c.if-is_empty.false) c.look.ensures
