use Rattle.std.proofs.Common.{◌≡◌, ◌-◌, ◌≤◌, drop}
use Rattle.input_head.proofs.fetching.skip.Given as goal

-- so many bytes are due yet, the others were taken, and no read failed
abbrev pub invariant-loop-due : goal.invariant-loop-due
invariant-loop-due g l = record {
  few : l.due ≤ l.many;
  left : g.I.Source.outside.tells → g.I.Source.outside.left l.input ≡ drop (l.many - l.due) (g.I.Source.outside.left l.fn.input);
  faults : g.I.Source.outside.faults l.input ≡ g.I.Source.outside.faults l.fn.input;
}

abbrev pub decreases-loop-due : goal.decreases-loop-due
decreases-loop-due g l = l.due
