use Rattle.std.proofs.Common.{arith}
use Rattle.std.proofs.lemmas.List.Elements.{All-from_all_within, AllWithin-more, AllWithin-upto, at_read}
use Rattle.session_model.specs.Playlist.{IsPlaylist}
use Rattle.session_model.specs.declared.track.Track.{Track}
use Rattle.edition_log.proofs.types.read_tracks.Goals as goal

abbrev IsRead : Track → Type 0
IsRead x = IsPlaylist x.list

pub loop-track-preserved : goal.loop-track-preserved
loop-track-preserved c = let l = c.loop-track in AllWithin-more IsRead c.args.tracks.now 0 l.track-index l.invariant
    (at_read c.args.tracks.now IsRead l.track-index c.track-item.result c.loop-track-test.true c.track-item.is c.regions-regions.ensures.playlist)

pub returns : goal.returns
returns c = let l = c.loop-track in All-from_all_within IsRead c.args.tracks.now (AllWithin-upto IsRead c.args.tracks.now 0 l.track-index _ (omega (arith, c.loop-track-test.false)) l.invariant)
