-- The answer of the sources is that of their definition.
use Rattle.session_opening.proofs.SourceLaws.{plan_found, answers_first}
use Rattle.session_opening.proofs.loading.sources_in.Goals as goal

pub returns-in-Ok-clause-told : goal.returns-in-Ok-clause-told
returns-in-Ok-clause-told g c = λ t. plan_found (g.M.Media.outside.files c.args.media.now) c.args.session.now.rate c.args.session.now.sources.items c.in-Ok.sources.opened (c.in-Ok.ensures.told t)

pub returns-in-Err-File-clause-told : goal.returns-in-Err-File-clause-told
returns-in-Err-File-clause-told g c = λ t. answers_first (g.M.Media.outside.files c.args.media.now) c.args.session.now.rate c.args.session.now.sources.items c.as_slice.result.now
    c.in-Err-File.source c.in-Err-File.why c.in-Err-File.field-0 c.refused.result c.refused.ensures.value c.as_slice.ensures.items c.in-Err-File.field-0-is (c.in-Err-File.ensures.refused t)
