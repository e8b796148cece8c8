use Rattle.std.proofs.Common.{ap, ◌∙◌}
use Rattle.engine_core.specs.Played.{finished_of}
use Rattle.engine_core.proofs.running.played.Goals as goal

-- src/running.rt
pub returns : goal.returns
returns g c = let did = c.finish-ended.ensures in record {
  engine = c.play_on.new.engine;
  going = c.play_on.ensures.going;
  finished = c.play_on.ensures.finished;
  ended = c.finish-ended.result;
  is = c.finished.ensures ∙ ap (finished_of c.finish-ended.result) c.parts.ensures;
  few = c.entries-made.ensures.within;
  written = did.written;
  counts = did.counts;
  takes = did.takes;
  rings = did.rings;
  genuine = did.genuine;
  as_machine = did.as_machine;
}
