use Rattle.std.proofs.Common.{◌*◌, ◌-◌, ◌%◌, ℕ, rules, append_assoc}
use Rattle.std.specs.Prelude.{replicate}
use Rattle.capture_flush.proofs.WriteLemmas.{Adds-then, Adds-as, Adds-stopped}
use Rattle.capture_flush.proofs.takes.TakeFiles.add_ending.Goals as goal

pub returns-in_err-add_zeros-clause-adds : goal.returns-in_err-add_zeros-clause-adds
returns-in_err-add_zeros-clause-adds g c = Adds-stopped g.M.Media.outside c.args.name.now _ _ (replicate (c.args.run.blocks * c.args.size % 2) 0) _ _ _ _ _ _ c.from_residual-in_err-add_zeros.ensures.0 (search rules) c.in_ok-begin.ensures c.in_err-add_zeros.ensures.adds

pub returns-clause-adds : goal.returns-clause-adds
returns-clause-adds g c = let lost : ℕ = (c.args.run.blocks - c.args.run.filled) * c.args.size in let odd : ℕ = c.args.run.blocks * c.args.size % 2 in
    Adds-as g.M.Media.outside c.args.name.now _ _ _ _ _ (append_assoc _ (replicate lost 0) (replicate odd 0))
    (Adds-then g.M.Media.outside c.args.name.now _ (replicate odd 0) _ _ _ _
    (Adds-then g.M.Media.outside c.args.name.now _ (replicate lost 0) _ _ _ _ c.in_ok-begin.ensures (Adds-as g.M.Media.outside c.args.name.now _ _ _ _ _ (search rules) c.in_ok-add_zeros.ensures.adds))
    (Adds-as g.M.Media.outside c.args.name.now _ _ _ _ _ (search rules) c.pad.ensures))
