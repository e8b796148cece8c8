use Rattle.std.specs.Prelude.{Some}
use Rattle.session_run.specs.Tasks.{Migrates}
use Rattle.session_run.proofs.DoesLemmas as does
use Rattle.session_run.proofs.StatusLemmas as status
use Rattle.session_run.proofs.migrate.migrate.Goals as goal

pub returns : goal.returns
returns g c = let r = c.rewrite-status.ensures in let o = c.unplayed.ensures in
    does.of_unplayed g.M.Media.outside g.I.Source.outside g.C.Source.outside g.W.Sink.outside g.O.Sink.outside c.args.world c.unplayed.result (Some (Migrates c.args.name.now)) tt c.rewrite-status.new.media (λ none. absurd none) c.rewrite-status.new.out c.rewrite-status.result
    r.ends r.status (status.migrate_not_master c.rewrite-status.result r.status) r.written r.reads r.writes r.only_reads o.status o.world o.journal o.rings o.acks
