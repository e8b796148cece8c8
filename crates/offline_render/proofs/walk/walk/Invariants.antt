use Rattle.std.proofs.Common.{take}
use Rattle.offline_render.specs.Walk.{AreFed}
use Rattle.offline_render.proofs.walk.walk.Given as goal

-- the routes so far are done
abbrev pub invariant-loop-i : goal.invariant-loop-i
invariant-loop-i l = AreFed l.fn.s l.tracks l.place l.c (take l.i l.order) l.sums
