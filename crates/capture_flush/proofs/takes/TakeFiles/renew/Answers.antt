use Rattle.std.proofs.Common.{rules}
use Rattle.engine_model.specs.Takes.{take_name}
use Rattle.capture_flush.proofs.GiveLemmas.{over_all, over_head}
use Rattle.capture_flush.proofs.takes.TakeFiles.renew.Goals as goal

pub returns-clause-part : goal.returns-clause-part
returns-clause-part g c t = over_head c.overwrite_front.result g.s c.args.track c.args.after c.stated-told.result c.as_str.result.now (take_name g.s c.args.track c.args.take) c.header-head.result _ _
    (search rules) c.stated-told.ensures.stated c.header-head.ensures (c.overwrite_front.ensures.front t)

pub returns-clause-all : goal.returns-clause-all
returns-clause-all g c t = over_all c.overwrite_front.result g.s c.args.track c.args.before c.args.after c.stated.result c.stated-told.result c.as_str.result.now (take_name g.s c.args.track c.args.take) c.header-head.result _ _
    (search rules) c.stated.ensures.stated c.stated-told.ensures.stated c.if-stated-told.false c.header-head.ensures (c.overwrite_front.ensures.all t)
