use Rattle.std.proofs.Common.{sym, ap, subst}
use Rattle.butler.specs.Hushed.{Hushes}
use Rattle.serve_worker.specs.declared.worker.ServeWorker.{ServeWorker}
use Rattle.serve_worker.specs.Ends.{MakesATurn, TurnLeaves}
use Rattle.serve_worker.proofs.KeptLemmas.{butler_hushed}
use Rattle.serve_worker.proofs.ServeLemmas as serve
use Rattle.serve_worker.proofs.worker.one.Goals as goal
use Rattle.serve_worker.proofs.worker.one.Goals.{then-idle, else-idle}

-- src/worker.rt
pub in_edition-w-requires : goal.in_edition-w-requires
in_edition-w-requires g c κs within = let new = c.in-Ok.ensures in let was = c.requires.1.1 in
    (within, (c.requires.1.0, (serve.enters_on g.M.Media.outside g.on c.args.w c.in-Ok.w was new.same (new.reader g.on.at.session was.turns.reader_of) new.enters.more).turns))

pub returns-after-idle-clause-leaves : goal.returns-after-idle-clause-leaves
returns-after-idle-clause-leaves g c = let M = g.M.Media.outside in let new = c.in-Ok.ensures in let was = c.requires.1.1 in let did = c.in_edition-w.ensures in let v = c.in_edition-w.result.0 in
    let made = serve.made_turn M g.on c.args.most c.args.w c.in-Ok.w v c.in_edition-w.result.1 new.same did.same new.enters did.turned
    (did.serves (serve.enters_on M g.on c.args.w c.in-Ok.w was new.same (new.reader g.on.at.session was.turns.reader_of) new.enters.more)) in elim c.if-idle.branch [
      | then-idle w ↦ subst (λ how. TurnLeaves M g.on c.args.most c.args.w how v) (sym w.result-is) (subst (λ idle. MakesATurn M g.on c.args.most c.args.w idle v) w.if-idle.true made)
      | else-idle w ↦ subst (λ how. TurnLeaves M g.on c.args.most c.args.w how v) (sym w.result-is) (subst (λ idle. MakesATurn M g.on c.args.most c.args.w idle v) w.if-idle.false made)
    ]

pub returns-in-Err-clause-leaves : goal.returns-in-Err-clause-leaves
returns-in-Err-clause-leaves g c = let new = c.in-Err.ensures in let was = c.requires.1.1 in let did = c.hushed.ensures in
    serve.refused g.M.Media.outside g.on c.args.w c.in-Err.w c.hushed.result was new.same did.same (new.reader g.on.at.session was.turns.reader_of) new.enters did.hushes

pub returns-in-Err-clause-keeps : goal.returns-in-Err-clause-keeps
returns-in-Err-clause-keeps g c = butler_hushed c.args.w.butler c.hushed.result.butler
    (subst (λ b. Hushes b c.hushed.result.butler) (ap (λ (z : ServeWorker g.row.M.Denot). z.butler) c.in-Err.ensures.same) c.hushed.ensures.hushes)
