use Rattle.std.specs.Prelude.{Some}
use Rattle.command_words.specs.Spoken.{verify_view}
use Rattle.session_run.specs.Tasks.{Verifies}
use Rattle.session_run.proofs.DoesLemmas as does
use Rattle.session_run.proofs.StatusLemmas as status
use Rattle.session_run.proofs.verify.verify.Goals as goal

pub returns : goal.returns
returns g c = let r = c.hold-status.ensures in let o = c.unplayed.ensures in
    does.of_unplayed g.M.Media.outside g.I.Source.outside g.C.Source.outside g.W.Sink.outside g.O.Sink.outside c.args.world c.unplayed.result (Some (Verifies (verify_view c.args.asked.now))) tt c.hold-status.new.media (λ none. absurd none) c.hold-status.new.out c.hold-status.result
    r.ends r.status (status.verify_not_master c.hold-status.result r.status) r.written r.reads r.writes r.only_reads o.status o.world o.journal o.rings o.acks
