use Rattle.std.specs.List.{AllWithin}
use Rattle.session_model.specs.Playlist.{IsPlaylist}
use Rattle.edition_log.proofs.types.read_tracks.Given as goal

abbrev pub invariant-loop-track : goal.invariant-loop-track
invariant-loop-track l = AllWithin (λ k. IsPlaylist k.list) l.tracks 0 l.track-index
