use Rattle.play_worker.proofs.LeaveLemmas.{leaves}
use Rattle.play_worker.proofs.playing.play.Goals as goal

-- src/playing.rt
pub returns-clause-leaves : goal.returns-clause-leaves
returns-clause-leaves g c = let made = c.made-w in let done = c.finished-w in
    leaves g.I.Source.outside g.W.Sink.outside c.args.patience c.args.w made.result.0 done.result.0 made.result.1 done.result.1 c.given_back-played.result
    made.ensures.stopped done.ensures.ends made.ensures.keeps c.given_back-played.ensures.gives c.given_back-played.ensures.ended c.given_back-played.ensures.cut_off
