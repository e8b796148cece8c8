use Rattle.std.proofs.Common.{sym, ap, subst, length, ◌∙◌}
use Rattle.session_model.specs.declared.session.Session.{Session}
use Rattle.control_desk.specs.State.{reading}
use Rattle.run_end.specs.Lists.{HaveRoomFor}
use Rattle.thread_run.specs.Beginning.{start_of}
use Rattle.thread_run.proofs.BeginLemmas.{has_room, have_begun, ready_as}
use Rattle.thread_run.proofs.beginning.begin.Goals as goal

-- src/beginning.rt
pub returns-in-Ok-ready-clause-begun : goal.returns-in-Ok-ready-clause-begun
returns-in-Ok-ready-clause-begun g c = let M = g.M.Media.outside in let I = g.I.Source.outside in let W = g.W.Sink.outside in let o = c.args.o in let x = c.in-Ok-ready.workers in let crew = c.with_control.result in
    let is = c.with_control.ensures in have_begun M I W o c.requires.may crew
    (ready_as M I W c.apart-start.result.0 (start_of o) x.playing crew.playing x.serving crew.serving x.told crew.told x.lists crew.leading.lists x.granting crew.leading.link.granting x.acks crew.leading.link.hearing
    c.apart-start.ensures.start is.playing is.serving is.told is.list is.granting is.acks c.in-Ok-ready.ensures.ready)
    (is.control ∙ ap (λ z. reading z.lines z.out) c.apart-start.ensures.spoken)
    (subst (HaveRoomFor o.edition.session) (sym is.lists) (has_room o.edition.session c.in-Ok.lists c.len-tracks.result c.in-Ok.ensures
    (c.len-tracks.ensures.len ∙ ap (λ (z : Session). length z.tracks.items) c.session.ensures.session)))
