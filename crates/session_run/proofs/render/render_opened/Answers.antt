use Rattle.std.proofs.Common.{sym, subst}
use Rattle.std.specs.Prelude.{All}
use Rattle.std.proofs.lemmas.List.Elements.{All-nil}
use Rattle.sound_model.specs.Regions.{Sounds}
use Rattle.audio_source.specs.Lines.{IsAsRead}
use Rattle.cycle_journal.specs.declared.status.Status.{Status}
use Rattle.master_render.specs.Offline.{offline_file}
use Rattle.master_render.specs.Written.{IsWritten}
use Rattle.session_run.specs.Rendered.{IsRendered, rendered}
use Rattle.command_words.specs.Spoken.{render_view}
use Rattle.session_run.proofs.RenderLemmas.{channels_are, told_sounds, written_after}
use Rattle.session_run.proofs.render.render_opened.Goals as goal

pub render_master-ended-requires-clause-sources : goal.render_master-ended-requires-clause-sources
render_master-ended-requires-clause-sources g c = channels_are c.args.session.now.rate c.args.session.now.sources.items c.args.sources.now.opened c.requires.listed

pub returns-clause-written : goal.returns-clause-written
returns-clause-written g c = λ tells is heard. let s = c.args.session.now in let opened = c.args.sources.now.opened in let files = g.M.Media.outside.files c.args.media.now in
    let sink = g.W.Sink.outside in let r = c.render_master-ended in let file = rendered files s (render_view c.args.asked.now) in
    let holds : All (IsAsRead files opened) c.args.sources.now.held = subst (λ (hs : _). All (IsAsRead files opened) hs) (sym c.requires.held) (All-nil (IsAsRead files opened)) in
    subst (λ (e : Status). IsRendered sink file c.args.master.now r.new.master e) (sym c.status_after.ensures)
    (written_after sink file c.args.master.now r.new.master r.result
    (subst (λ (f : Sounds). IsWritten sink (offline_file f s c.args.asked.now.from c.args.asked.now.frames) c.args.master.now r.new.master r.result) (told_sounds files s opened is)
    (r.ensures.written (tells, holds) heard)))
