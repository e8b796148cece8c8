use Rattle.std.proofs.Common.{◌≤◌, [], ap, sym, subst, ◌∙◌}
use Rattle.std.specs.Prelude.{Some, None}
use Rattle.std.specs.Option.{option_map_or}
use Rattle.piece_item.specs.Views.{item_of}
use Rattle.track_playback.proofs.HeardLemmas.{ring_of, heard_at, samples_by_all}
use Rattle.track_playback.proofs.playbacks.heard_block.Goals as goal

pub piece-requires : goal.piece-requires
piece-requires g c = let p = c.index-playbacks-track in
    let r = ring_of c.args.at g.plays c.args.playbacks.now c.args.track p.result c.requires.0 c.requires.1 p.is in
    subst (λ d. d.window.generation ≤ c.args.at.generation) p.is r.heard.played.until.generation

pub returns-in_err-piece-clause-newest : goal.returns-in_err-piece-clause-newest
returns-in_err-piece-clause-newest g c = λ r there.
    let is = heard_at c.args.at g.plays c.args.playbacks.now c.args.track r c.index-playbacks-track.result c.requires.0 c.requires.1 there in
    let shows = is.played.shows in
    ap (λ o. option_map_or (λ block. block.now.items) o []) c.from_residual.ensures
    ∙ sym (samples_by_all c.args.at r _ c.requires.0.some is None (c.in_err-piece.ensures.piece shows.given shows.window))

pub returns-clause-newest : goal.returns-clause-newest
returns-clause-newest g c = λ r there.
    let is = heard_at c.args.at g.plays c.args.playbacks.now c.args.track r c.index-playbacks-track.result c.requires.0 c.requires.1 there in
    let shows = is.played.shows in
    sym (samples_by_all c.args.at r _ c.requires.0.some is (Some (item_of c.in_ok-piece.piece.now)) (c.in_ok-piece.ensures.piece shows.given shows.window))

pub returns-clause-whole : goal.returns-clause-whole
returns-clause-whole g c = λ r there.
    let is = heard_at c.args.at g.plays c.args.playbacks.now c.args.track r c.index-playbacks-track.result c.requires.0 c.requires.1 there in
    c.in_ok-piece.ensures.samples ∙ is.played.window_room ∙ sym is.played.room
