use Rattle.session_play.proofs.ReportLemmas.{reports_by}
use Rattle.session_play.proofs.reporting.report.Goals as goal

pub returns-clause-reports : goal.returns-clause-reports
returns-clause-reports g c = reports_by g.O.Sink.outside c.args.head.now c.args.finished c.write_unless.result c.write_unless.new.out c.status_at_end-status.result c.end_unless.new.out
    c.write_unless.ensures c.status_at_end-status.ensures c.end_unless.ensures
