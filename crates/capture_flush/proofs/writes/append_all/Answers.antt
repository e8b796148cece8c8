use Rattle.std.proofs.Common.{◌∙◌, rules}
use Rattle.capture_flush.proofs.WriteLemmas.{one_more, some_more}
use Rattle.capture_flush.proofs.writes.append_all.Goals as goal

pub loop-done-preserved : goal.loop-done-preserved
loop-done-preserved g c = record {
  within = search rules;
  put = λ t. one_more _ _ _ c.args.name.now c.args.bytes.now c.loop-done.done c.in-Ok.n (search rules) (search rules) (c.loop-done.invariant.put t) (c.in-Ok.ensures.ok t);
  writes = c.in-Ok.ensures.cause.kept ∙ c.loop-done.invariant.writes;
  reads = c.append.ensures.other_count ∙ c.loop-done.invariant.reads;
}

pub returns-in-Err : goal.returns-in-Err
returns-in-Err g c = record {
  all = search rules;
  front = λ t. some_more _ _ _ c.args.name.now c.args.bytes.now c.loop-done.done c.loop-done.invariant.within (c.loop-done.invariant.put t) (c.in-Err.ensures.err t);
  cause = search rules;
  reads = c.append.ensures.other_count ∙ c.loop-done.invariant.reads;
}
