use Rattle.process_tests.proofs.runs.begun.Goals as goal

pub new-requires : goal.new-requires
new-requires c = record {
  opened = c.in_ok-given.ensures.opened;
  few = c.in_ok-given.ensures.cycles;
  has = c.in_ok-given.ensures.input;
  empty = c.in_ok-given.ensures.master;
}
