use Rattle.std.proofs.Common.{sym, subst}
use Rattle.ses_io.specs.Files.{Files}
use Rattle.audio_source.specs.Opened.{IsOpened}
use Rattle.session_opening.specs.Plan.{Open}
use Rattle.command_words.specs.Spoken.{render_view}
use Rattle.session_model.specs.declared.session.Session.{Session}
use Rattle.session_run.specs.Rendered.{IsRendered, WhereOpened, rendered}
use Rattle.session_run.proofs.RenderLemmas.{of_render}
use Rattle.session_run.proofs.render.render_into.Goals as goal

pub returns-clause-status : goal.returns-clause-status
returns-clause-status g c = of_render c.render_opened.result c.render_opened.ensures.ends

pub returns-clause-written : goal.returns-clause-written
returns-clause-written g c = λ tells. let o = c.in-Ok.opened in let s = o.session in let media = g.M.Media.outside in let sink = g.W.Sink.outside in let r = c.render_opened in
    let view = render_view c.args.asked.now in
    subst (λ (p : Open Session). WhereOpened sink (media.files c.args.media.now) p view c.args.master.now r.new.master r.result) (sym (c.in-Ok.ensures.told tells))
    (subst (λ (f : Files). IsOpened f s.rate s.sources.items o.sources.opened → sink.tells → IsRendered sink (rendered f s view) c.args.master.now r.new.master r.result)
    c.in-Ok.ensures.only_reads.files (r.ensures.written tells) (c.in-Ok.ensures.heads tells))
