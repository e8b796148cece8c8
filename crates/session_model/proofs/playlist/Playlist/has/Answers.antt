-- The regions are those that contracts see.
use Rattle.std.proofs.Common.{◌∙◌, sym, ap}
use Rattle.session_model.specs.Playlist.{has_region}
use Rattle.session_model.proofs.PlaceLemmas.{has_region-any}
use Rattle.session_model.proofs.playlist.Playlist.has.Goals as goal

pub returns : goal.returns
returns c = c.any_has.ensures ∙ sym (has_region-any c.args.id _) ∙ ap (λ qs. has_region qs c.args.id) c.regions.ensures.regions
