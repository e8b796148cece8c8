use Rattle.std.specs.Prelude.{Some, None}
use Rattle.piece_item.specs.Views.{item_of}
use Rattle.track_playback.specs.SpareBoxes.{received_kinds}
use Rattle.track_playback.proofs.HeardLemmas.{shown_by_all, tail_is}
use Rattle.track_playback.proofs.NotingLemmas.{heard_is, short_is}
use Rattle.track_playback.proofs.noting.heard.Goals as goal

pub returns-in-Some : goal.returns-in-Some
returns-in-Some c = let at = c.args.at in let item = item_of c.in-Some.piece.now in λ r is. heard_is at.generation at.next (received_kinds r) item c.touched.result
    (shown_by_all at r c.args.playback.now c.requires.some is (Some item) (c.in-Some.ensures.piece is.played.shows.given is.played.shows.window))
    c.touched.ensures

pub returns-in-None : goal.returns-in-None
returns-in-None c = let at = c.args.at in λ r is. short_is at.generation at.next (received_kinds r) c.args.playback.now.tail
    (shown_by_all at r c.args.playback.now c.requires.some is None (c.in-None.ensures.piece is.played.shows.given is.played.shows.window))
    (tail_is at r c.args.playback.now c.requires.some is)
