-- The track that is written back is the one that stood there with the region.
use Rattle.std.proofs.Common.{get_or, ap}
use Rattle.sound_model.specs.Layers.{with_region}
use Rattle.session_model.specs.declared.track.Track.{Track}
use Rattle.session_model.specs.Region.{region_of}
use Rattle.session_model.specs.Playlist.{without_region}
use Rattle.session_change.proofs.PlaceLemmas.{track_written}
use Rattle.session_change.proofs.regions.put_region.Goals as goal

pub returns : goal.returns
returns c =
    let k : Track = get_or c.as_mut_slice.result.now c.args.track c.index-as_mut_slice-track.result in
    track_written (λ x. record x { list = with_region (region_of c.args.r) (without_region x.list c.args.r.id) }) c.args.s.now c.as_mut_slice.result.now c.args.track
    c.index-as_mut_slice-track.result _ c.as_mut_slice.ensures.items c.requires.track (ap (λ l. record k { list = l }) c.put.ensures)
