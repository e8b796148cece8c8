-- A run does what it is said to; another command was carried out, and then its line was written.
use Rattle.std.proofs.Common.{sym, ap}
use Rattle.std.specs.Prelude.{Some}
use Rattle.command_words.specs.Spoken.{render_view, verify_view}
use Rattle.session_play.specs.Request.{request_view}
use Rattle.session_run.specs.Tasks.{Runs, Migrates, Checks, Renders, Verifies, Gens, task_view}
use Rattle.session_run.proofs.ReplyLemmas.{answered}
use Rattle.session_run.proofs.RunLemmas.{does_run}
use Rattle.session_run.proofs.TopLemmas.{as_asked}
use Rattle.session_run.proofs.answer.done.Goals as goal

pub returns-in-Migrate : goal.returns-in-Migrate
returns-in-Migrate g c = as_asked g.M.Media.outside g.I.Source.outside g.C.Source.outside g.W.Sink.outside g.O.Sink.outside c.args.world c.with_line.result (Some (Migrates c.in-Migrate.session.now)) (Some (task_view c.args.task)) (sym (ap (λ t. Some (task_view t)) c.in-Migrate.is))
    (answered g.M.Media.outside g.I.Source.outside g.C.Source.outside g.W.Sink.outside g.O.Sink.outside c.args.world c.migrate.result c.with_line.result (Some (Migrates c.in-Migrate.session.now)) tt c.migrate.ensures c.with_line.ensures)

pub returns-in-Check : goal.returns-in-Check
returns-in-Check g c = as_asked g.M.Media.outside g.I.Source.outside g.C.Source.outside g.W.Sink.outside g.O.Sink.outside c.args.world c.with_line-in-Check.result (Some (Checks c.in-Check.session.now)) (Some (task_view c.args.task)) (sym (ap (λ t. Some (task_view t)) c.in-Check.is))
    (answered g.M.Media.outside g.I.Source.outside g.C.Source.outside g.W.Sink.outside g.O.Sink.outside c.args.world c.check.result c.with_line-in-Check.result (Some (Checks c.in-Check.session.now)) tt c.check.ensures c.with_line-in-Check.ensures)

pub returns-in-Render : goal.returns-in-Render
returns-in-Render g c = as_asked g.M.Media.outside g.I.Source.outside g.C.Source.outside g.W.Sink.outside g.O.Sink.outside c.args.world c.with_line-in-Render.result (Some (Renders (render_view c.in-Render.asked))) (Some (task_view c.args.task)) (sym (ap (λ t. Some (task_view t)) c.in-Render.is))
    (answered g.M.Media.outside g.I.Source.outside g.C.Source.outside g.W.Sink.outside g.O.Sink.outside c.args.world c.render.result c.with_line-in-Render.result (Some (Renders (render_view c.in-Render.asked))) tt c.render.ensures c.with_line-in-Render.ensures)

pub returns-in-Run : goal.returns-in-Run
returns-in-Run g c = as_asked g.M.Media.outside g.I.Source.outside g.C.Source.outside g.W.Sink.outside g.O.Sink.outside c.args.world c.play.result (Some (Runs (request_view c.in-Run.asked))) (Some (task_view c.args.task)) (sym (ap (λ t. Some (task_view t)) c.in-Run.is))
    (does_run g.M.Media.outside g.I.Source.outside g.C.Source.outside g.W.Sink.outside g.O.Sink.outside c.args.world (request_view c.in-Run.asked) c.play.result c.play.ensures.told c.play.ensures.played c.play.ensures.causes c.play.ensures.complete)

pub returns-in-Verify : goal.returns-in-Verify
returns-in-Verify g c = as_asked g.M.Media.outside g.I.Source.outside g.C.Source.outside g.W.Sink.outside g.O.Sink.outside c.args.world c.with_line-in-Verify.result (Some (Verifies (verify_view c.in-Verify.asked))) (Some (task_view c.args.task)) (sym (ap (λ t. Some (task_view t)) c.in-Verify.is))
    (answered g.M.Media.outside g.I.Source.outside g.C.Source.outside g.W.Sink.outside g.O.Sink.outside c.args.world c.verify.result c.with_line-in-Verify.result (Some (Verifies (verify_view c.in-Verify.asked))) tt c.verify.ensures c.with_line-in-Verify.ensures)

pub returns-in-Gen : goal.returns-in-Gen
returns-in-Gen g c = as_asked g.M.Media.outside g.I.Source.outside g.C.Source.outside g.W.Sink.outside g.O.Sink.outside c.args.world c.with_line-in-Gen.result (Some (Gens c.in-Gen.number)) (Some (task_view c.args.task)) (sym (ap (λ t. Some (task_view t)) c.in-Gen.is))
    (answered g.M.Media.outside g.I.Source.outside g.C.Source.outside g.W.Sink.outside g.O.Sink.outside c.args.world c.generate.result c.with_line-in-Gen.result (Some (Gens c.in-Gen.number)) tt c.generate.ensures c.with_line-in-Gen.ensures)
