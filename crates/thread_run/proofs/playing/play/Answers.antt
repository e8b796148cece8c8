use Rattle.run_end.specs.Beginning.{started_of}
use Rattle.run_end.specs.Finished.{FaultsAreCounted, LeavesRings, SendsGenuine, run_end_of}
use Rattle.run_end.specs.Mastered.{InputGave, MakesItsCycles, WritesTheMaster}
use Rattle.run_end.specs.Takes.{LeavesTakes}
use Rattle.thread_run.specs.Fronts.{LeavesFronts}
use Rattle.thread_run.specs.Leaving.{Asked}
use Rattle.thread_run.specs.Playing.{IfEnough, PlaysItsLines}
use Rattle.thread_run.proofs.PlayLemmas as play
use Rattle.thread_run.proofs.playing.play.Goals as goal

-- src/playing.rt
pub returns-clause-lines : goal.returns-clause-lines
returns-clause-lines g c = let M = g.M.Media.outside in let I = g.I.Source.outside in let C = g.C.Source.outside in let W = g.W.Sink.outside in let O = g.O.Sink.outside in
    let on : Asked g.row.M.Denot g.row.I.Denot g.row.C.Denot g.row.W.Denot g.row.O.Denot = record { opened = c.args.o; patience = c.args.patience } in
    play.if_left (play.Left g.row.R.Denot M I C W O on) (PlaysItsLines c.args.patience C O c.args.o) (λ f x. play.lines_of g.row.R.Denot M I C W O on f x c.heard_is_true.ensures) c.run.result c.run.ensures.left

pub returns-clause-rings : goal.returns-clause-rings
returns-clause-rings g c = let M = g.M.Media.outside in let I = g.I.Source.outside in let C = g.C.Source.outside in let W = g.W.Sink.outside in let O = g.O.Sink.outside in
    let on : Asked g.row.M.Denot g.row.I.Denot g.row.C.Denot g.row.W.Denot g.row.O.Denot = record { opened = c.args.o; patience = c.args.patience } in
    play.if_left (play.Left g.row.R.Denot M I C W O on) (IfEnough (LeavesRings c.args.o)) (λ f x. play.rings_of g.row.R.Denot M I C W O on f x) c.run.result c.run.ensures.left

pub returns-clause-genuine : goal.returns-clause-genuine
returns-clause-genuine g c tells = let M = g.M.Media.outside in let I = g.I.Source.outside in let C = g.C.Source.outside in let W = g.W.Sink.outside in let O = g.O.Sink.outside in
    let on : Asked g.row.M.Denot g.row.I.Denot g.row.C.Denot g.row.W.Denot g.row.O.Denot = record { opened = c.args.o; patience = c.args.patience } in
    play.if_left (play.Left g.row.R.Denot M I C W O on) (IfEnough (SendsGenuine M c.args.o)) (λ f x. play.genuine_of g.row.R.Denot M I C W O on f x tells) c.run.result c.run.ensures.left

pub returns-clause-master : goal.returns-clause-master
returns-clause-master g c tells told = let M = g.M.Media.outside in let I = g.I.Source.outside in let C = g.C.Source.outside in let W = g.W.Sink.outside in let O = g.O.Sink.outside in
    let on : Asked g.row.M.Denot g.row.I.Denot g.row.C.Denot g.row.W.Denot g.row.O.Denot = record { opened = c.args.o; patience = c.args.patience } in
    play.if_left (play.Left g.row.R.Denot M I C W O on) (IfEnough (WritesTheMaster M W c.args.o)) (λ f x. play.master_of g.row.R.Denot M I C W O on f x c.the_master_is_its_blocks.ensures tells told) c.run.result c.run.ensures.left

pub returns-clause-cycles : goal.returns-clause-cycles
returns-clause-cycles g c = let M = g.M.Media.outside in let I = g.I.Source.outside in let C = g.C.Source.outside in let W = g.W.Sink.outside in let O = g.O.Sink.outside in
    let on : Asked g.row.M.Denot g.row.I.Denot g.row.C.Denot g.row.W.Denot g.row.O.Denot = record { opened = c.args.o; patience = c.args.patience } in
    play.if_left (play.Left g.row.R.Denot M I C W O on) (IfEnough (MakesItsCycles c.args.o)) (λ f x. play.cycles_of g.row.R.Denot M I C W O on f x) c.run.result c.run.ensures.left

pub returns-clause-input : goal.returns-clause-input
returns-clause-input g c = let M = g.M.Media.outside in let I = g.I.Source.outside in let C = g.C.Source.outside in let W = g.W.Sink.outside in let O = g.O.Sink.outside in
    let on : Asked g.row.M.Denot g.row.I.Denot g.row.C.Denot g.row.W.Denot g.row.O.Denot = record { opened = c.args.o; patience = c.args.patience } in
    play.if_left (play.Left g.row.R.Denot M I C W O on) (InputGave I c.args.o) (λ f x. play.input_of g.row.R.Denot M I C W O on f x) c.run.result c.run.ensures.left

pub returns-clause-takes : goal.returns-clause-takes
returns-clause-takes g c = let M = g.M.Media.outside in let I = g.I.Source.outside in let C = g.C.Source.outside in let W = g.W.Sink.outside in let O = g.O.Sink.outside in
    let on : Asked g.row.M.Denot g.row.I.Denot g.row.C.Denot g.row.W.Denot g.row.O.Denot = record { opened = c.args.o; patience = c.args.patience } in
    play.if_left (play.Left g.row.R.Denot M I C W O on) (IfEnough (λ f. LeavesTakes M I (started_of M I W c.args.o) (run_end_of f))) (λ f x. play.takes_of g.row.R.Denot M I C W O on f x) c.run.result c.run.ensures.left

pub returns-clause-counts : goal.returns-clause-counts
returns-clause-counts g c = let M = g.M.Media.outside in let I = g.I.Source.outside in let C = g.C.Source.outside in let W = g.W.Sink.outside in let O = g.O.Sink.outside in
    let on : Asked g.row.M.Denot g.row.I.Denot g.row.C.Denot g.row.W.Denot g.row.O.Denot = record { opened = c.args.o; patience = c.args.patience } in
    play.if_left (play.Left g.row.R.Denot M I C W O on) (FaultsAreCounted M I C W O c.args.o) (λ f x. play.counts_of g.row.R.Denot M I C W O on f x) c.run.result c.run.ensures.left

pub returns-clause-fronts : goal.returns-clause-fronts
returns-clause-fronts g c tells = let M = g.M.Media.outside in let I = g.I.Source.outside in let C = g.C.Source.outside in let W = g.W.Sink.outside in let O = g.O.Sink.outside in
    let on : Asked g.row.M.Denot g.row.I.Denot g.row.C.Denot g.row.W.Denot g.row.O.Denot = record { opened = c.args.o; patience = c.args.patience } in
    play.if_left (play.Left g.row.R.Denot M I C W O on) (λ f. LeavesFronts M I (started_of M I W c.args.o) (run_end_of f)) (λ f x. play.fronts_of g.row.R.Denot M I C W O on f x tells) c.run.result c.run.ensures.left
