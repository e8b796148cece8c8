use Rattle.std.proofs.Common.{◌∙◌, sym, subst}
use Rattle.master_blocks.specs.State.{IsMasterOf}
use Rattle.master_blocks.proofs.DeskLemmas.{track_long}
use Rattle.master_blocks.proofs.blocks.MasterBlocks.put.Goals as goal

pub put-requires-clause-block : goal.put-requires-clause-block
put-requires-clause-block g c = let of = subst (IsMasterOf g.s) (sym c.self.view_is) c.requires.1.0 in
    c.requires.1.1.1 ∙ sym (track_long g.s c.self.inside.desk c.args.track of.valid of.desk c.requires.1.1.0)
