use Rattle.std.proofs.Common.{arith}
use Rattle.std.specs.Prelude.{pos}
use Rattle.std.proofs.lemmas.List.FromFn.{fill_by_all}
use Rattle.sound_model.specs.Routes.{master_sample}
use Rattle.session_model.specs.Views.{routes_of}
use Rattle.engine_model.specs.Played.{master_channels}
use Rattle.offline_render.specs.Frame.{samples}
use Rattle.offline_render.proofs.offline.Offline.mix.Goals as goal

pub returns : goal.returns
returns c = let s = c.args.s.now in
    fill_by_all (λ k. master_sample (routes_of s) (samples c.args.tracks.now) c.args.place k) c.loop-c.out (master_channels s) (pos 0) (omega (arith, c.loop-c.auto.out, c.requires.out))
    (λ k h. c.loop-c.invariant k (omega (arith, h, c.requires.out)))
