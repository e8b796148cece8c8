use Rattle.std.proofs.Common.{◌≡◌, ◌∙◌, ap, subst}
use Rattle.std.specs.Prelude.{ℤ, List, OnOk}
use Rattle.sound_model.specs.Regions.{Sounds}
use Rattle.sound_model.specs.Layers.{track_sample}
use Rattle.session_model.specs.Frames.{sounds_of}
use Rattle.playlist_layers.specs.Blocks.{track_block}
use Rattle.offline_render.proofs.FrameLemmas.{one_frame}
use Rattle.offline_render.proofs.offline.Offline.track.Goals as goal

pub returns-clause-told : goal.returns-clause-told
returns-clause-told g c = λ t.
    let sounds : Sounds = sounds_of (g.F.Frames.outside.frames c.args.frames.now) in
    subst (λ (want : List ℤ). OnOk c.render.result (c.render.new.out ≡ want))
    (ap (track_block sounds c.args.list.now c.args.channels c.args.place) c.requires.out
    ∙ one_frame (λ x i. track_sample sounds c.args.list.now i x) c.args.channels c.args.place c.requires.channels)
    (c.render.ensures.told t)
