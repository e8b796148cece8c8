use Rattle.std.proofs.Common.{length, ◌∙◌}
use Rattle.master_blocks.proofs.SinkLemmas.{fails_so, block_more, part_of_zeros}
use Rattle.master_blocks.proofs.writing.write_zeros.Goals as goal

pub loop-block-preserved : goal.loop-block-preserved
loop-block-preserved g c = let l = c.loop-block in record {
  held = λ t. block_more _ _ _ _ l._block (length c.args.zeros.now) c.requires.zeros (l.invariant.held t) (c.in_ok-write_all.ensures.all t);
  count = c.in_ok-write_all.ensures.cause.kept ∙ l.invariant.count;
}

pub returns-in_err-write_all : goal.returns-in_err-write_all
returns-in_err-write_all g c = let l = c.loop-block in
    fails_so _ _ _ _ _ _ _ c.from_residual.result c.from_residual.ensures.0 c.in_err-write_all.ensures l.invariant.count
    (λ t. part_of_zeros _ _ _ _ l._block (length c.args.zeros.now) c.args.blocks c.loop-block-test.true c.requires.zeros (l.invariant.held t))
