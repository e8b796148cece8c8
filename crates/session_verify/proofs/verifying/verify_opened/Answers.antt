use Rattle.std.proofs.Common.{◌∙◌, ap}
use Rattle.std.specs.Prelude.{Err}
use Rattle.ses_io.specs.Files.{content}
use Rattle.audio_source.specs.Told.{source_sound}
use Rattle.session_verify.proofs.AnswerLemmas.{refuted_of}
use Rattle.session_verify.proofs.verifying.verify_opened.Goals as goal

pub returns-in-Ok-clause-told : goal.returns-in-Ok-clause-told
returns-in-Ok-clause-told g c = λ t. let files = g.M.Media.outside.files c.args.media.now in
    c.verified_where_all_agree.ensures c.args.session.now (source_sound files c.args.sources.now.opened) (content files c.args.asked.now.report.now) (content files c.args.asked.now.master.now) c.in-Ok.entries c.requires.valid (c.in-Ok.ensures.told t)

pub returns-in-Err-Refuted-clause-told : goal.returns-in-Err-Refuted-clause-told
returns-in-Err-Refuted-clause-told g c = λ t. let files = g.M.Media.outside.files c.args.media.now in
    refuted_of c.args.session.now (source_sound files c.args.sources.now.opened) (content files c.args.asked.now.report.now) (content files c.args.asked.now.master.now) c.check.result c.in-Err-Refuted.line
    (c.in-Err-Refuted.is ∙ ap Err c.in-Err-Refuted.field-0-is) (c.check.ensures.told t)
