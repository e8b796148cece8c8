use Rattle.master_render.proofs.BytesLemmas.{file_fits_of}
use Rattle.master_render.proofs.render.begin.Goals as goal

pub header-head-requires-clause-size : goal.header-head-requires-clause-size
header-head-requires-clause-size g c = file_fits_of c.args.frames c.from.result c.form_of.result.channels c.form_of.result.bits c.from.ensures c.requires.frames c.form_of.ensures.most
