use Rattle.std.proofs.Common.{sym, subst}
use Rattle.master_blocks.specs.State.{IsMasterOf}
use Rattle.master_blocks.proofs.StateLemmas.{quiet_is}
use Rattle.master_blocks.proofs.blocks.MasterBlocks.quiet.Goals as goal

pub returns-clause-put : goal.returns-clause-put
returns-clause-put g c = let of = subst (IsMasterOf g.s) (sym c.self.view_is) c.requires.1.0 in
    quiet_is g.s c.args.track _ _ c.self.inside.desk c.quiet.new.self c.args.self.now of.valid of.desk c.requires.1.1 c.self.view_is c.quiet.ensures.put
