use Rattle.std.proofs.Common.{subst}
use Rattle.ses_io.specs.Files.{Files, content}
use Rattle.audio_source.specs.Told.{source_sound}
use Rattle.command_words.specs.Spoken.{verify_view}
use Rattle.session_opening.specs.Plan.{session_plan}
use Rattle.session_verify.specs.Verified.{IsVerdict}
use Rattle.session_verify.proofs.AnswerLemmas.{none_held, verdict_in}
use Rattle.session_verify.proofs.verifying.verify.Goals as goal

pub returns-clause-told : goal.returns-clause-told
returns-clause-told g c = λ t. let m = g.M.Media.outside in let files = m.files c.args.media.now in let v = verify_view c.args.asked.now in let o = c.in-Ok.opened in let sources = o.sources in
    verdict_in files v (session_plan files v.session) o.session sources.opened c.verify_opened.result (c.in-Ok.ensures.told t) (c.in-Ok.ensures.heads t)
    (let K : Files → Type 0 = λ fs. IsVerdict o.session (source_sound fs sources.opened) (content fs v.report) (content fs v.master) c.verify_opened.result in subst K c.in-Ok.ensures.only_reads.files
    (c.verify_opened.ensures.told (record { tells = t; lines = none_held (m.files c.open_session.new.media) sources c.in-Ok.ensures.held })))
