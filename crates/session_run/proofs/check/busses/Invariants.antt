use Rattle.std.proofs.Common.{◌≡◌, take}
use Rattle.std.specs.List.{count_by}
use Rattle.session_run.specs.Checked.{is_bus}
use Rattle.session_run.proofs.check.busses.Given as goal

-- the busses of the routes so far
abbrev pub invariant-loop-route : goal.invariant-loop-route
invariant-loop-route l = l.busses ≡ count_by (λ r. is_bus r.kind) (take l.route-index l.routes)
