-- An item stood before where it is the same as one of those.
use Rattle.std.proofs.Common.{sym, ◌∙◌}
use Rattle.session_toml.proofs.TwiceLaws.{twice_found, twice_passed}
use Rattle.session_toml.proofs.rules.alike.first_twice.Goals as goal

pub returns-then-any_same : goal.returns-then-any_same
returns-then-any_same g c = sym (twice_found g.T.Alike.same c.args.items.now c.loop-i.i c.index-items-i.result c.loop-i-test.true c.index-items-i.is
    (sym c.any_same.ensures ∙ c.if-any_same.true)) ∙ c.loop-i.invariant

pub loop-i-preserved : goal.loop-i-preserved
loop-i-preserved g c = sym (twice_passed g.T.Alike.same c.args.items.now c.loop-i.i c.index-items-i.result c.loop-i-test.true c.index-items-i.is
    (sym c.any_same.ensures ∙ c.if-any_same.false)) ∙ c.loop-i.invariant
