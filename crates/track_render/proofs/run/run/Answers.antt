use Rattle.std.proofs.Common.{◌≡◌, length, subst}
use Rattle.sound_model.specs.Regions.{Sounds}
use Rattle.playlist_layers.specs.Blocks.{track_block}
use Rattle.track_render.proofs.ReadLemmas.{told_sounds}
use Rattle.track_render.proofs.run.run.Goals as goal

pub returns-clause-told : goal.returns-clause-told
returns-clause-told g c = λ t h.
    subst (λ (sounds : Sounds). c.render.new.out ≡ track_block sounds c.args.list.now c.args.channels c.args.place (length c.args.out.now))
    (told_sounds (g.M.Media.outside.files c.args.media.now) c.args.sources.now.opened) (c.in_ok-render.ensures.told (t, h))
