use Rattle.std.proofs.Common.{◌∙◌, rules, ◌+◌}
use Rattle.capture_flush.proofs.WriteLemmas.{overwrites_more}
use Rattle.capture_flush.proofs.writes.overwrite_front.Goals as goal

pub loop-done-preserved : goal.loop-done-preserved
loop-done-preserved g c = record {
  within = search rules;
  put = λ t. overwrites_more _ _ _ c.args.name.now c.args.bytes.now c.loop-done.done c.in-Ok.n (c.loop-done.invariant.put t) (c.in-Ok.ensures.ok t);
  writes = c.in-Ok.ensures.cause.kept ∙ c.loop-done.invariant.writes;
  reads = c.write_at.ensures.other_count ∙ c.loop-done.invariant.reads;
}

pub returns-in-Err-clause-front : goal.returns-in-Err-clause-front
returns-in-Err-clause-front g c t = let some = c.in-Err.ensures.err t in
    (c.loop-done.done + some.0, overwrites_more _ _ _ c.args.name.now c.args.bytes.now c.loop-done.done some.0 (c.loop-done.invariant.put t) some.1)
