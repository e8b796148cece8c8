use Rattle.std.proofs.Common.{refl}
use Rattle.session_gen.proofs.MasterLemmas.{master_is}
use Rattle.session_gen.proofs.export.exported.Goals as goal

pub returns : goal.returns
returns c = λ done. master_is c.args.n c.play.ensures.complete c.play.ensures.played tt tt c.in_ok-world.ensures.files c.in_ok-world.ensures.master refl done
