use Rattle.std.proofs.Common.{subst}
use Rattle.std.specs.Prelude.{Err}
use Rattle.ses_io.specs.Outside.{Writes}
use Rattle.master_blocks.specs.Bytes.{head_bytes}
use Rattle.process_cycle.specs.declared.fault.CycleFault.{CycleFault}
use Rattle.process_cycle.specs.Playing.{IsPlaying}
use Rattle.process_cycle.specs.ProcessState.{Playing}
use Rattle.process_cycle.specs.Promised.{IsMastered}
use Rattle.play_worker.specs.Plays.{at_now}
use Rattle.play_worker.proofs.EndLemmas as lemmas
use Rattle.play_worker.proofs.KeptLemmas.{run_trans}
use Rattle.play_worker.proofs.LeaveLemmas.{master_keeps}
use Rattle.play_worker.proofs.playing.made.Goals as goal

-- src/playing.rt
pub cycles-requires-clause-plays : goal.cycles-requires-clause-plays
cycles-requires-clause-plays g c = let I = g.I.Source.outside in let W = g.W.Sink.outside in let p = c.begin.new.self in let is = c.in-Ok.ensures in let first = c.requires.1.1.1.0 in
    lemmas.plays_first I W c.args.patience c.args.w c.requires.1.1.1.1 p is.same (subst (λ (a : Playing). IsPlaying I a p) first is.playing) (subst (λ (a : Playing). IsMastered W a p) first is.master) is.writes.cause.kept

pub returns-in-Ok-clause-stopped : goal.returns-in-Ok-clause-stopped
returns-in-Ok-clause-stopped g c = let I = g.I.Source.outside in let W = g.W.Sink.outside in
    lemmas.plays_no_more I W c.args.patience (at_now I W c.cycles.result.0) c.cycles.result.1 c.cycles.result.0 c.cycles.ensures.leaves

pub returns-in-Ok-clause-keeps : goal.returns-in-Ok-clause-keeps
returns-in-Ok-clause-keeps g c = run_trans c.args.w.process c.begin.new.self c.cycles.result.0.process (master_keeps c.args.w.process c.begin.new.self c.in-Ok.ensures.same) c.cycles.ensures.keeps

pub returns-in-Err-clause-stopped : goal.returns-in-Err-clause-stopped
returns-in-Err-clause-stopped g c = let I = g.I.Source.outside in let W = g.W.Sink.outside in let w = c.args.w in let p = c.begin.new.self in let is = c.in-Err.ensures in let first = c.requires.1.1.1.0 in
    lemmas.head_failed I W c.args.patience w c.requires.1.1.1.1 p is.same (subst (λ (a : Playing). IsPlaying I a p) first is.playing) c.in-Err.fault is.fault
    (subst (λ (a : Playing). Writes {E = CycleFault} W (head_bytes a.session w.process.journal.room) w.process.master.sink p.master.sink (Err c.in-Err.fault)) first is.writes)

pub returns-in-Err-clause-keeps : goal.returns-in-Err-clause-keeps
returns-in-Err-clause-keeps g c = master_keeps c.args.w.process c.begin.new.self c.in-Err.ensures.same
