use Rattle.run_end.specs.Takes.{LeavesTakes}
use Rattle.run_end.specs.Beginning.{started_of}
use Rattle.run_end.specs.Finished.{FaultsAreCounted, LeavesRings, SendsGenuine, run_end_of}
use Rattle.engine_core.specs.Lines.{GoesByItsLines}
use Rattle.run_end.specs.Mastered.{MakesItsCycles, InputGave, WritesTheMaster}
use Rattle.engine_core.proofs.RunLemmas as ends
use Rattle.engine_core.proofs.running.run_events.Goals as goal

-- src/running.rt
pub returns-clause-lines : goal.returns-clause-lines
returns-clause-lines g c = ends.if_played (ends.Played g.M.Media.outside g.I.Source.outside g.C.Source.outside g.W.Sink.outside g.O.Sink.outside c.args.o c.requires c.args.events.now) (GoesByItsLines g.C.Source.outside g.O.Sink.outside c.args.o c.args.events.now) (ends.lines_of g.M.Media.outside g.I.Source.outside g.C.Source.outside g.W.Sink.outside g.O.Sink.outside c.args.o c.requires c.args.events.now) c.play.result c.play.ensures.played

pub returns-clause-rings : goal.returns-clause-rings
returns-clause-rings g c = ends.if_played (ends.Played g.M.Media.outside g.I.Source.outside g.C.Source.outside g.W.Sink.outside g.O.Sink.outside c.args.o c.requires c.args.events.now) (LeavesRings c.args.o) (ends.rings_of g.M.Media.outside g.I.Source.outside g.C.Source.outside g.W.Sink.outside g.O.Sink.outside c.args.o c.requires c.args.events.now) c.play.result c.play.ensures.played

pub returns-clause-genuine : goal.returns-clause-genuine
returns-clause-genuine g c = λ tells. ends.if_played (ends.Played g.M.Media.outside g.I.Source.outside g.C.Source.outside g.W.Sink.outside g.O.Sink.outside c.args.o c.requires c.args.events.now) (SendsGenuine g.M.Media.outside c.args.o) (ends.genuine_of g.M.Media.outside g.I.Source.outside g.C.Source.outside g.W.Sink.outside g.O.Sink.outside c.args.o c.requires c.args.events.now tells) c.play.result c.play.ensures.played

pub returns-clause-master : goal.returns-clause-master
returns-clause-master g c = λ tells told. ends.if_played (ends.Played g.M.Media.outside g.I.Source.outside g.C.Source.outside g.W.Sink.outside g.O.Sink.outside c.args.o c.requires c.args.events.now) (WritesTheMaster g.M.Media.outside g.W.Sink.outside c.args.o) (ends.master_of g.M.Media.outside g.I.Source.outside g.C.Source.outside g.W.Sink.outside g.O.Sink.outside c.args.o c.requires c.args.events.now c.the_master_is_its_blocks.ensures tells told) c.play.result c.play.ensures.played

pub returns-clause-cycles : goal.returns-clause-cycles
returns-clause-cycles g c = ends.if_played (ends.Played g.M.Media.outside g.I.Source.outside g.C.Source.outside g.W.Sink.outside g.O.Sink.outside c.args.o c.requires c.args.events.now) (MakesItsCycles c.args.o) (ends.cycles_of g.M.Media.outside g.I.Source.outside g.C.Source.outside g.W.Sink.outside g.O.Sink.outside c.args.o c.requires c.args.events.now) c.play.result c.play.ensures.played

pub returns-clause-input : goal.returns-clause-input
returns-clause-input g c = ends.if_played (ends.Played g.M.Media.outside g.I.Source.outside g.C.Source.outside g.W.Sink.outside g.O.Sink.outside c.args.o c.requires c.args.events.now) (InputGave g.I.Source.outside c.args.o) (ends.input_of g.M.Media.outside g.I.Source.outside g.C.Source.outside g.W.Sink.outside g.O.Sink.outside c.args.o c.requires c.args.events.now) c.play.result c.play.ensures.played

pub returns-clause-takes : goal.returns-clause-takes
returns-clause-takes g c = ends.if_played (ends.Played g.M.Media.outside g.I.Source.outside g.C.Source.outside g.W.Sink.outside g.O.Sink.outside c.args.o c.requires c.args.events.now) (λ f. LeavesTakes g.M.Media.outside g.I.Source.outside (started_of g.M.Media.outside g.I.Source.outside g.W.Sink.outside c.args.o) (run_end_of f)) (ends.takes_of g.M.Media.outside g.I.Source.outside g.C.Source.outside g.W.Sink.outside g.O.Sink.outside c.args.o c.requires c.args.events.now) c.play.result c.play.ensures.played

pub returns-clause-counts : goal.returns-clause-counts
returns-clause-counts g c = ends.if_played (ends.Played g.M.Media.outside g.I.Source.outside g.C.Source.outside g.W.Sink.outside g.O.Sink.outside c.args.o c.requires c.args.events.now) (FaultsAreCounted g.M.Media.outside g.I.Source.outside g.C.Source.outside g.W.Sink.outside g.O.Sink.outside c.args.o) (ends.counts_of g.M.Media.outside g.I.Source.outside g.C.Source.outside g.W.Sink.outside g.O.Sink.outside c.args.o c.requires c.args.events.now) c.play.result c.play.ensures.played
