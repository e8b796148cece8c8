use Rattle.offline_render.proofs.FrameLemmas.{one_or_two}
use Rattle.master_render.proofs.FormLemmas.{last_channels}
use Rattle.master_render.proofs.form.width.Goals as goal

pub returns-clause-some : goal.returns-clause-some
returns-clause-some c = let few = last_channels c.args.s.now c.requires.formed c.as_slice-routes.result.now c.index-routes-routes.result c.as_slice-routes.ensures.items c.index-routes-routes.is in one_or_two _ few.least few.most

pub returns-clause-least : goal.returns-clause-least
returns-clause-least c = (last_channels c.args.s.now c.requires.formed c.as_slice-routes.result.now c.index-routes-routes.result c.as_slice-routes.ensures.items c.index-routes-routes.is).least

pub returns-clause-most : goal.returns-clause-most
returns-clause-most c = (last_channels c.args.s.now c.requires.formed c.as_slice-routes.result.now c.index-routes-routes.result c.as_slice-routes.ensures.items c.index-routes-routes.is).most
