use Rattle.std.proofs.Common.{◌∙◌, arith}
use Rattle.session_model.specs.Frames.{sounds_of}
use Rattle.playlist_layers.proofs.Reading.{read_on, went}
use Rattle.master_render.proofs.BlockLemmas.{block_more, block_fails, written_as}
use Rattle.master_render.proofs.FormLemmas.{master_few}
use Rattle.master_render.proofs.WrittenLemmas.{fails_as}
use Rattle.master_render.proofs.desk.Desk.write.Goals as goal

pub returns-in_err-block-clause-written : goal.returns-in_err-block-clause-written
returns-in_err-block-clause-written g c = λ t w. let s = c.args.s.now in let l = c.loop-done in
    block_fails (sounds_of (g.F.Frames.outside.frames c.args.reader.now)) s c.args.from l.done c.from.result c.min-count.result (master_few s c.requires.valid.formed) c.from.ensures
    g.W.Sink.outside c.args.master.now l.master c.block.new.master c.from_residual.result c.args.frames (omega (arith, c.min-count.ensures, c.loop-done-test.true)) c.from_residual.ensures.0 (l.invariant.written t w)
    (fails_as g.W.Sink.outside _ l.master c.block.new.master _ c.from_residual.result c.from_residual.ensures.0
    (written_as g.W.Sink.outside s _ c.min-count.result _ _ l.master c.block.new.master _ (l.invariant.read.kept t)
    (c.in_err-block.ensures.written (l.invariant.read.tells t) w)))

pub loop-done-preserved : goal.loop-done-preserved
loop-done-preserved g c = let s = c.args.s.now in let l = c.loop-done in record {
  within = omega (arith, c.min-count.ensures, c.loop-done-test.true);
  written = λ t w. block_more (sounds_of (g.F.Frames.outside.frames c.args.reader.now)) s c.args.from l.done c.from.result c.min-count.result (master_few s c.requires.valid.formed) c.from.ensures
      (g.W.Sink.outside.held c.args.master.now) (g.W.Sink.outside.held l.master) (g.W.Sink.outside.held c.block.new.master) (l.invariant.written t w)
      (written_as g.W.Sink.outside s _ c.min-count.result _ _ l.master c.block.new.master _ (l.invariant.read.kept t)
      (c.in_ok-block.ensures.written (l.invariant.read.tells t) w)).all;
  read = read_on g.F.Frames.outside g.F.Frames.rest c.args.reader.now l.reader c.block.new.reader tt went l.invariant.read c.in_ok-block.ensures.read;
  count = c.in_ok-block.ensures.cause.kept ∙ l.invariant.count;
  same = c.in_ok-block.ensures.same ∙ l.invariant.same;
}
