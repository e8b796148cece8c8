use Rattle.std.proofs.Common.{◌∙◌}
use Rattle.session_model.specs.Frames.{sounds_of}
use Rattle.offline_render.proofs.FrameLemmas.{master_heard}
use Rattle.offline_render.proofs.offline.Offline.frame.Goals as goal

pub returns-clause-told : goal.returns-clause-told
returns-clause-told g c = λ t. let s = c.args.s.now in
    c.mix.ensures ∙ master_heard (sounds_of (g.F.Frames.outside.frames c.args.frames.now)) s c.args.place c.tracks.new.out c.only_own_channels.ensures
    (c.links_lead_wide.ensures s c.requires.valid.formed) c.requires.valid.formed (c.in_ok-tracks.ensures.told t)
