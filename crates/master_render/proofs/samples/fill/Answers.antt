use Rattle.std.proofs.Common.{◌≡◌, ◌+◌, List, arith, subst}
use Rattle.session_model.specs.Frames.{Told, sounds_of}
use Rattle.engine_model.specs.Played.{master_channels}
use Rattle.offline_render.specs.Frame.{frame}
use Rattle.playlist_layers.proofs.Reading.{read_on, went}
use Rattle.master_render.specs.Offline.{offline_sound}
use Rattle.master_render.proofs.FillLemmas.{frame_more_of, frames_all}
use Rattle.master_render.proofs.samples.fill.Goals as goal

pub loop-i-preserved : goal.loop-i-preserved
loop-i-preserved g c = let s = c.args.s.now in let i = c.loop-i.i in
    record {
      told = λ t. frame_more_of (offline_sound (sounds_of (g.F.Frames.outside.frames c.args.reader.now)) s) c.width-width.result (master_channels s) c.args.from i c.from.result c.args.count c.loop-i.out c.frame.new.out
          c.width-width.ensures.width c.from.ensures c.width-width.ensures.some c.loop-i-test.true (omega (arith, c.loop-i.auto.out, c.requires.room)) (c.loop-i.invariant.told t)
          (subst (λ (fs : List Told). c.frame.new.out ≡ frame (offline_sound (sounds_of fs) s (c.args.from + c.from.result)) (master_channels s)) (c.loop-i.invariant.read.kept t) (c.in_ok-frame.ensures.told (c.loop-i.invariant.read.tells t)));
      read = read_on g.F.Frames.outside g.F.Frames.rest c.args.reader.now c.loop-i.reader c.frame.new.frames tt went c.loop-i.invariant.read c.in_ok-frame.ensures.read;
    }

pub returns-clause-told : goal.returns-clause-told
returns-clause-told g c = λ t. let s = c.args.s.now in
    frames_all (offline_sound (sounds_of (g.F.Frames.outside.frames c.args.reader.now)) s) c.width-width.result (master_channels s) c.args.from c.loop-i.i c.args.count c.loop-i.out
    c.width-width.ensures.width (omega (arith, c.loop-i-test.false, c.loop-i.auto.i-end)) (c.loop-i.invariant.told t)
