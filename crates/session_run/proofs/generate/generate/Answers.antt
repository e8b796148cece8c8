use Rattle.std.proofs.Common.{refl}
use Rattle.std.specs.Prelude.{Some}
use Rattle.session_run.specs.Tasks.{Gens}
use Rattle.session_run.proofs.DoesLemmas as does
use Rattle.session_run.proofs.StatusLemmas as status
use Rattle.session_run.proofs.generate.generate.Goals as goal

pub returns : goal.returns
returns g c = let r = c.make-status.ensures in let o = c.unplayed.ensures in let media = g.M.Media.outside in let world = c.args.world in
    does.of_unplayed media g.I.Source.outside g.C.Source.outside g.W.Sink.outside g.O.Sink.outside world c.unplayed.result (Some (Gens c.args.number)) tt world.media (λ _. refl) c.make-status.new.out c.make-status.result
    tt r.status (status.gen_not_master c.make-status.result r.status) r.written
    (status.quiet (media.read_faults world.media) (media.read_faults world.media) c.make-status.result refl (status.gen_not_read c.make-status.result r.status)) r.writes (record { files = refl; other_count = refl })
    o.status o.world o.journal o.rings o.acks
