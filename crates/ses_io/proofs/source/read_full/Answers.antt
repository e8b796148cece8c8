use Rattle.std.proofs.Common.{arith, ◌∙◌}
use Rattle.ses_io.proofs.Streams.{Takes-then, fits-then}
use Rattle.ses_io.proofs.source.read_full.Goals as goal

pub loop-filled-preserved : goal.loop-filled-preserved
loop-filled-preserved g c = record {
  within = fits-then c.loop-filled.filled _ _ _ c.loop-filled.invariant.within c.read.auto.buf c.in_ok-n.ensures.bound;
  none = λ e. absurd (grind (arith, e, c.loop-filled-test, c.read.auto.buf));
  taken = λ t. Takes-then c.loop-filled.filled _ (c.loop-filled.invariant.taken t) c.read.auto.buf (c.in_ok-n.ensures.bytes t);
  count = c.in_ok-n.ensures.cause.kept ∙ c.loop-filled.invariant.count;
}
