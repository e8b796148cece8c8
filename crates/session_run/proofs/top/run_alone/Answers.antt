-- Each clause is a part of what was done that the words ask for.
use Rattle.std.specs.Option.{option_map}
use Rattle.session_run.specs.Tasks.{asked_by, task_view}
use Rattle.session_run.proofs.StatusLemmas.{usage_only}
use Rattle.session_run.proofs.TopLemmas.{as_asked}
use Rattle.session_run.proofs.top.run_alone.Goals as goal

pub returns-clause-usage : goal.returns-clause-usage
returns-clause-usage g c = usage_only (asked_by c.args.words.now) c.answer.result.status (let does = as_asked g.M.Media.outside g.I.Source.outside g.C.Source.outside g.W.Sink.outside g.O.Sink.outside c.args.world c.answer.result (option_map task_view c.asked_by.result) (asked_by c.args.words.now) c.asked_by.ensures.value c.answer.ensures in does.status)

pub returns-clause-ends : goal.returns-clause-ends
returns-clause-ends g c = let does = as_asked g.M.Media.outside g.I.Source.outside g.C.Source.outside g.W.Sink.outside g.O.Sink.outside c.args.world c.answer.result (option_map task_view c.asked_by.result) (asked_by c.args.words.now) c.asked_by.ensures.value c.answer.ensures in does.ends

pub returns-clause-status : goal.returns-clause-status
returns-clause-status g c = let does = as_asked g.M.Media.outside g.I.Source.outside g.C.Source.outside g.W.Sink.outside g.O.Sink.outside c.args.world c.answer.result (option_map task_view c.asked_by.result) (asked_by c.args.words.now) c.asked_by.ensures.value c.answer.ensures in does.status

pub returns-clause-played : goal.returns-clause-played
returns-clause-played g c = let does = as_asked g.M.Media.outside g.I.Source.outside g.C.Source.outside g.W.Sink.outside g.O.Sink.outside c.args.world c.answer.result (option_map task_view c.asked_by.result) (asked_by c.args.words.now) c.asked_by.ensures.value c.answer.ensures in does.played

pub returns-clause-rendered : goal.returns-clause-rendered
returns-clause-rendered g c = let does = as_asked g.M.Media.outside g.I.Source.outside g.C.Source.outside g.W.Sink.outside g.O.Sink.outside c.args.world c.answer.result (option_map task_view c.asked_by.result) (asked_by c.args.words.now) c.asked_by.ensures.value c.answer.ensures in does.rendered

pub returns-clause-replies : goal.returns-clause-replies
returns-clause-replies g c = let does = as_asked g.M.Media.outside g.I.Source.outside g.C.Source.outside g.W.Sink.outside g.O.Sink.outside c.args.world c.answer.result (option_map task_view c.asked_by.result) (asked_by c.args.words.now) c.asked_by.ensures.value c.answer.ensures in does.replies

pub returns-clause-complete : goal.returns-clause-complete
returns-clause-complete g c = let does = as_asked g.M.Media.outside g.I.Source.outside g.C.Source.outside g.W.Sink.outside g.O.Sink.outside c.args.world c.answer.result (option_map task_view c.asked_by.result) (asked_by c.args.words.now) c.asked_by.ensures.value c.answer.ensures in does.complete

pub returns-clause-causes : goal.returns-clause-causes
returns-clause-causes g c = let does = as_asked g.M.Media.outside g.I.Source.outside g.C.Source.outside g.W.Sink.outside g.O.Sink.outside c.args.world c.answer.result (option_map task_view c.asked_by.result) (asked_by c.args.words.now) c.asked_by.ensures.value c.answer.ensures in does.causes

pub returns-clause-rest : goal.returns-clause-rest
returns-clause-rest g c = let does = as_asked g.M.Media.outside g.I.Source.outside g.C.Source.outside g.W.Sink.outside g.O.Sink.outside c.args.world c.answer.result (option_map task_view c.asked_by.result) (asked_by c.args.words.now) c.asked_by.ensures.value c.answer.ensures in does.rest
