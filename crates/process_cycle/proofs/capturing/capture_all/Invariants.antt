use Rattle.std.proofs.Common.{length}
use Rattle.process_cycle.proofs.CapturingLemmas.{CapturedBelow}
use Rattle.process_cycle.proofs.capturing.capture_all.Given as goal

abbrev pub ghost-capture : goal.ghost-capture
ghost-capture g a = g.before

-- the tracks before this one were captured
abbrev pub invariant-loop-t : goal.invariant-loop-t
invariant-loop-t g l = CapturedBelow l.e l.rolls g.before l.channels l.input (length l.initial.captures)
    (record { captures = l.initial.captures; rings = l.initial.rings; notes = l.initial.notes }) (record { captures = l.captures; rings = l.rings; notes = l.notes }) l.t
