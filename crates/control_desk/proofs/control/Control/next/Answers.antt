use Rattle.std.proofs.Common.{subst, Option}
use Rattle.edit_script.specs.Reading.{Read, line_of}
use Rattle.edit_script.specs.declared.command.Command.{Command}
use Rattle.control_desk.specs.Taking.{TakesNext}
use Rattle.control_desk.proofs.CallLemmas.{carried, ended, faulted}
use Rattle.control_desk.proofs.TakingLemmas.{keeps_forms_of, few_of, ready_still}
use Rattle.control_desk.proofs.control.Control.next.Goals as goal

pub carry_out-requires : goal.carry_out-requires
carry_out-requires g c = let takes = subst (λ (x : Option (Read Command)). TakesNext g.C.Source.outside c.args.self.now x c.line.new.self) c.in-Ok-Some.field-0-is c.in-Ok-Some.ensures.line in record {
  ready = ready_still takes c.requires.ready;
  few = λ n is. few_of (line_of c.in-Ok-Some.said) n c.args.seen.now.entries takes.legal is c.requires.few;
}

pub returns-in-Ok-Some-clause-step : goal.returns-in-Ok-Some-clause-step
returns-in-Ok-Some-clause-step g c = carried g.C.Source.outside g.O.Sink.outside c.args.seen.now c.args.self.now c.line.new.self c.carry_out.new.self c.in-Ok-Some.said c.carry_out.result c.requires.ready
    (subst (λ (x : Option (Read Command)). TakesNext g.C.Source.outside c.args.self.now x c.line.new.self) c.in-Ok-Some.field-0-is c.in-Ok-Some.ensures.line) c.carry_out.ensures.given c.carry_out.ensures.replies

pub returns-in-Ok-Some-clause-forms : goal.returns-in-Ok-Some-clause-forms
returns-in-Ok-Some-clause-forms g c = let takes = subst (λ (x : Option (Read Command)). TakesNext g.C.Source.outside c.args.self.now x c.line.new.self) c.in-Ok-Some.field-0-is c.in-Ok-Some.ensures.line in
    keeps_forms_of (line_of c.in-Ok-Some.said) c.carry_out.result c.carry_out.ensures.given takes.legal

pub returns-in-Ok-None-clause-step : goal.returns-in-Ok-None-clause-step
returns-in-Ok-None-clause-step g c = ended g.C.Source.outside g.O.Sink.outside c.args.seen.now c.args.self.now _ c.line.new.self c.self.view_is c.requires.ready
    (subst (λ (x : Option (Read Command)). TakesNext g.C.Source.outside c.args.self.now x c.line.new.self) c.in-Ok-None.field-0-is c.in-Ok-None.ensures.line)

pub returns-in-Err-clause-step : goal.returns-in-Err-clause-step
returns-in-Err-clause-step g c = faulted g.C.Source.outside g.O.Sink.outside c.args.seen.now c.args.self.now _ c.line.new.self c.self-in-Err.view_is c.requires.ready c.in-Err.ensures.fault
