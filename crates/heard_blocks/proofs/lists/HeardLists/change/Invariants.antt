-- The changes before this one were made.
use Rattle.std.proofs.Common.{◌≡◌}
use Rattle.heard_blocks.specs.Lists.{IsBrought}
use Rattle.heard_blocks.proofs.lists.HeardLists.change.Given as goal

abbrev pub invariant-loop-edit : goal.invariant-loop-edit
invariant-loop-edit g l = record {
  brought : IsBrought g.s l.history.edits l.track l.edit l.fn.self.session l.self-inside.session;
  at : l.self-inside.at ≡ l.fn.self.at;
}
