use Rattle.std.proofs.Common.{arith, ◌∙◌, rules}
use Rattle.ses_io.proofs.Results.{OnErr-always}
use Rattle.ses_io.proofs.Streams.{Appends-then, AppendsSome-then}
use Rattle.ses_io.proofs.sink.write_all.Goals as goal

pub returns-in_err-done : goal.returns-in_err-done
returns-in_err-done g c = record {
  all = search rules;
  front = λ t. OnErr-always _ (AppendsSome-then c.loop-done.done (c.loop-done.invariant.written t) (c.in_err-done.ensures.err t));
  cause = search rules;
}

pub loop-done-preserved : goal.loop-done-preserved
loop-done-preserved g c = record {
  within = omega (arith, c.in_ok-done.ensures.bound);
  written = λ t. Appends-then c.loop-done.done _ (c.loop-done.invariant.written t) (c.in_ok-done.ensures.ok t);
  count = c.in_ok-done.ensures.cause.kept ∙ c.loop-done.invariant.count;
}
