use Rattle.std.proofs.Common.{sym, ap}
use Rattle.std.specs.Prelude.{Some}
use Rattle.std.specs.Option.{option_map}
use Rattle.session_run.specs.Tasks.{task_view}
use Rattle.session_run.proofs.TopLemmas.{as_asked}
use Rattle.session_run.proofs.answer.answer.Goals as goal

pub returns-in-Some : goal.returns-in-Some
returns-in-Some g c = as_asked g.M.Media.outside g.I.Source.outside g.C.Source.outside g.W.Sink.outside g.O.Sink.outside c.args.world c.done.result (Some (task_view c.in-Some.task)) (option_map task_view c.args.asked) (sym (ap (option_map task_view) c.in-Some.is)) c.done.ensures
