use Rattle.std.proofs.Common.{◌<◌}
use Rattle.std.proofs.lemmas.List.Elements.{All-same}
use Rattle.session_model.specs.Region.{region_of}
use Rattle.session_model.proofs.PlaylistLemmas.{All-with_region}
use Rattle.sound_tests.proofs.layers.playlist.Goals as goal

pub loop-part-preserved : goal.loop-part-preserved
loop-part-preserved c =
    All-same (λ r. r.source < 3) _ _ c.insert.ensures
    (All-with_region (λ r. r.source < 3) (region_of c.in_ok-r.r) c.loop-part.list c.in_ok-r.ensures.source c.loop-part.invariant)
