use Rattle.std.proofs.Common.{refl, Ok, Err}
use Rattle.control_desk.proofs.CallLemmas.{goes_by_edit}
use Rattle.control_desk.proofs.control.Control.published.Goals as goal

pub returns-in-Ok-clause-goes : goal.returns-in-Ok-clause-goes
returns-in-Ok-clause-goes g c = goes_by_edit g.C.Source.outside g.O.Sink.outside c.args.self.now c.reply.new.self c.args.answer (Ok c.in-Ok.edition) _ c.requires.ready c.in-Ok.is c.reply.ensures refl refl

pub returns-in-Ok-2-clause-goes : goal.returns-in-Ok-2-clause-goes
returns-in-Ok-2-clause-goes g c = goes_by_edit g.C.Source.outside g.O.Sink.outside c.args.self.now c.reply-in-Ok-2.new.self c.args.answer (Ok c.in-Ok-2.edition) _ c.requires.ready c.in-Ok-2.is c.reply-in-Ok-2.ensures refl refl

pub returns-in-Err-clause-goes : goal.returns-in-Err-clause-goes
returns-in-Err-clause-goes g c = goes_by_edit g.C.Source.outside g.O.Sink.outside c.args.self.now c.reply-in-Err.new.self c.args.answer (Err c.in-Err.why) _ c.requires.ready c.in-Err.is c.reply-in-Err.ensures refl refl
