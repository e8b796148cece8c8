use Rattle.std.proofs.Common.{sym, subst}
use Rattle.std.specs.Prelude.{Some}
use Rattle.ses_io.specs.declared.world.World.{World}
use Rattle.cycle_journal.specs.declared.status.Status.TheVariants.{NoMemory}
use Rattle.session_play.specs.Ready.{IsKept}
use Rattle.session_play.specs.Request.{request_view}
use Rattle.session_play.proofs.CauseLemmas.{has_causes, is_complete}
use Rattle.session_play.proofs.PlayLemmas.{complete_unplayed, kept_by_ready, may_run, played_by, told_by_report, was_played, was_unplayed}
use Rattle.session_play.proofs.playing.play.Goals as goal

-- ---- it isn't ready

pub returns-in-Err-clause-complete : goal.returns-in-Err-clause-complete
returns-in-Err-clause-complete g c = complete_unplayed g.M.Media.outside g.I.Source.outside c.args.world c.args.asked.now g.C.Source.outside g.W.Sink.outside g.O.Sink.outside c.in-Err.status c.in-Err.world c.refuse.result c.in-Err.ensures.kept c.refuse.ensures

-- ---- memory runs out

pub returns-clause-played : goal.returns-clause-played
returns-clause-played g c = was_unplayed g.M.Media.outside g.I.Source.outside c.args.world c.args.asked.now g.C.Source.outside g.W.Sink.outside g.O.Sink.outside NoMemory c.in-Err-run_events.world c.refuse-in-Err-run_events.result
    (subst (λ (w : World g.row.M.Denot g.row.I.Denot g.row.C.Denot g.row.W.Denot g.row.O.Denot). IsKept g.M.Media.outside g.I.Source.outside c.args.world c.args.asked.now NoMemory w) (sym c.in-Err-run_events.ensures.back)
    (kept_by_ready g.M.Media.outside g.I.Source.outside c.args.world c.args.asked.now c.in-Ok.ready c.in-Ok.ensures.ready)) c.refuse-in-Err-run_events.ensures

-- ---- it is played

pub run_events-requires : goal.run_events-requires
run_events-requires g c = may_run g.M.Media.outside g.I.Source.outside c.args.world c.args.asked.now c.in-Ok.ready c.in-Ok.ensures.ready c.requires

pub returns-in-Ok-run_events-clause-told : goal.returns-in-Ok-run_events-clause-told
returns-in-Ok-run_events-clause-told g c = told_by_report g.M.Media.outside g.I.Source.outside c.args.world c.args.asked.now c.in-Ok.ready c.in-Ok.ensures.ready g.O.Sink.outside
    c.in-Ok-run_events.finished c.report.result.status c.report.result.world.out c.report.ensures.reports

pub returns-in-Ok-run_events-clause-played : goal.returns-in-Ok-run_events-clause-played
returns-in-Ok-run_events-clause-played g c = let e = c.in-Ok-run_events.ensures in was_played g.M.Media.outside g.I.Source.outside c.args.world c.args.asked.now c.in-Ok.ready c.in-Ok.ensures.ready
    g.C.Source.outside g.W.Sink.outside g.O.Sink.outside c.as_slice.result.now c.as_slice.ensures.value c.in-Ok-run_events.finished
    (record { lines = e.lines; rings = e.rings; genuine = e.genuine; master = λ tells told. (e.master tells told).whole; cut_off = λ tells told. (e.master tells told).cut_off; cycles = e.cycles; input = e.input; takes = e.takes; counts = e.counts })
    c.sound_of_the_rest.ensures c.report.result c.report.ensures.hands_on c.report.ensures.reports

pub returns-in-Ok-run_events-clause-causes : goal.returns-in-Ok-run_events-clause-causes
returns-in-Ok-run_events-clause-causes g c = let e = c.in-Ok-run_events.ensures in has_causes g.M.Media.outside g.I.Source.outside g.C.Source.outside g.W.Sink.outside g.O.Sink.outside c.args.world (request_view c.args.asked.now) c.report.result
    (Some c.in-Ok-run_events.finished.journal)
    (played_by g.M.Media.outside g.I.Source.outside c.args.world c.args.asked.now c.in-Ok.ready c.in-Ok.ensures.ready
    g.C.Source.outside g.W.Sink.outside g.O.Sink.outside c.as_slice.result.now c.as_slice.ensures.value c.in-Ok-run_events.finished
    (record { lines = e.lines; rings = e.rings; genuine = e.genuine; master = λ tells told. (e.master tells told).whole; cut_off = λ tells told. (e.master tells told).cut_off; cycles = e.cycles; input = e.input; takes = e.takes; counts = e.counts })
    c.sound_of_the_rest.ensures c.report.result c.report.ensures.hands_on c.report.ensures.reports)

pub returns-in-Ok-run_events-clause-complete : goal.returns-in-Ok-run_events-clause-complete
returns-in-Ok-run_events-clause-complete g c = let e = c.in-Ok-run_events.ensures in is_complete g.M.Media.outside g.I.Source.outside g.C.Source.outside g.W.Sink.outside g.O.Sink.outside c.args.world (request_view c.args.asked.now) c.report.result
    (Some c.in-Ok-run_events.finished.journal) c.report.ensures.hands_on.journal
    (played_by g.M.Media.outside g.I.Source.outside c.args.world c.args.asked.now c.in-Ok.ready c.in-Ok.ensures.ready
    g.C.Source.outside g.W.Sink.outside g.O.Sink.outside c.as_slice.result.now c.as_slice.ensures.value c.in-Ok-run_events.finished
    (record { lines = e.lines; rings = e.rings; genuine = e.genuine; master = λ tells told. (e.master tells told).whole; cut_off = λ tells told. (e.master tells told).cut_off; cycles = e.cycles; input = e.input; takes = e.takes; counts = e.counts })
    c.sound_of_the_rest.ensures c.report.result c.report.ensures.hands_on c.report.ensures.reports)
    (told_by_report g.M.Media.outside g.I.Source.outside c.args.world c.args.asked.now c.in-Ok.ready c.in-Ok.ensures.ready g.O.Sink.outside
    c.in-Ok-run_events.finished c.report.result.status c.report.result.world.out c.report.ensures.reports)
