use Rattle.std.proofs.Common.{take}
use Rattle.session_model.proofs.StartLemmas.{Marks}
use Rattle.session_model.proofs.starts.mark.Given as goal

abbrev pub invariant-loop-s : goal.invariant-loop-s
invariant-loop-s l = Marks l.from (take l.s-index l.part) l.marks
