use Rattle.command_words.specs.Spoken.{render_view}
use Rattle.session_run.proofs.DoesLemmas as does
use Rattle.session_run.proofs.render.render.Goals as goal

pub returns : goal.returns
returns g c = let r = c.render_into-status.ensures in let o = c.unplayed.ensures in
    does.of_render g.M.Media.outside g.I.Source.outside g.C.Source.outside g.W.Sink.outside g.O.Sink.outside c.args.world c.unplayed.result (render_view c.args.asked.now) c.render_into-status.new.media c.render_into-status.new.master c.render_into-status.result
    r.ends r.status r.written r.refused r.reads r.writes r.only_reads o.status o.world o.journal o.rings o.acks
