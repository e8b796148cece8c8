-- No item so far stood before.
use Rattle.std.proofs.Common.{◌≡◌, take, drop}
use Rattle.session_toml.specs.Rules.{first_twice, twice_after}
use Rattle.session_toml.proofs.rules.alike.first_twice.Given as goal

abbrev pub invariant-loop-i : goal.invariant-loop-i
invariant-loop-i g l = twice_after g.T.Alike.same (take l.i l.items) (drop l.i l.items) ≡ first_twice g.T.Alike.same l.items
