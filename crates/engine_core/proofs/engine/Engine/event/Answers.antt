use Rattle.std.proofs.Common.{sym, subst}
use Rattle.run_letters.specs.Events.{letter_of}
use Rattle.engine_core.specs.Going.{GoesOnBy}
use Rattle.engine_core.proofs.EventLemmas as events
use Rattle.engine_core.proofs.GoingLemmas.{carry_goes}
use Rattle.engine_core.proofs.engine.Engine.event.Goals as goal

-- src/events.rt
pub returns-in-Control-clause-goes : goal.returns-in-Control-clause-goes
returns-in-Control-clause-goes g c = let did = c.carry.ensures in
    subst (λ z. GoesOnBy g.M.Media.outside g.I.Source.outside g.C.Source.outside g.W.Sink.outside g.O.Sink.outside g.on (letter_of z) c.args.self.now c.carry.new.self) (sym c.in-Control.is)
    (λ letters is. carry_goes g.M.Media.outside g.I.Source.outside g.C.Source.outside g.W.Sink.outside g.O.Sink.outside g.on letters c.args.self.now c.carry.new.self did.carries did.may did.as_machine is)

pub returns-in-Butler-clause-may : goal.returns-in-Butler-clause-may
returns-in-Butler-clause-may g c = let did = c.turn.ensures in
    (events.turn_goes g.M.Media.outside g.I.Source.outside g.C.Source.outside g.W.Sink.outside g.O.Sink.outside g.on c.args.self.now c.turn.new.self did.under_way c.requires.1.1.1.1.1 c.turn.result did.turns did.letter).may

pub returns-in-Butler-clause-goes : goal.returns-in-Butler-clause-goes
returns-in-Butler-clause-goes g c = let did = c.turn.ensures in
    subst (λ z. GoesOnBy g.M.Media.outside g.I.Source.outside g.C.Source.outside g.W.Sink.outside g.O.Sink.outside g.on (letter_of z) c.args.self.now (record { run = c.turn.new.self; control = c.args.self.now.control })) (sym c.in-Butler.is)
    (events.turn_goes g.M.Media.outside g.I.Source.outside g.C.Source.outside g.W.Sink.outside g.O.Sink.outside g.on c.args.self.now c.turn.new.self did.under_way c.requires.1.1.1.1.1 c.turn.result did.turns did.letter).goes

pub returns-in-Enter-clause-may : goal.returns-in-Enter-clause-may
returns-in-Enter-clause-may g c = let did = c.enter.ensures in
    (events.enter_goes g.M.Media.outside g.I.Source.outside g.C.Source.outside g.W.Sink.outside g.O.Sink.outside g.on c.args.self.now c.enter.new.self did.under_way c.requires.1.1.1.1.1 did.enters did.letter).may

pub returns-in-Enter-clause-goes : goal.returns-in-Enter-clause-goes
returns-in-Enter-clause-goes g c = let did = c.enter.ensures in
    subst (λ z. GoesOnBy g.M.Media.outside g.I.Source.outside g.C.Source.outside g.W.Sink.outside g.O.Sink.outside g.on (letter_of z) c.args.self.now (record { run = c.enter.new.self; control = c.args.self.now.control })) (sym c.in-Enter.is)
    (events.enter_goes g.M.Media.outside g.I.Source.outside g.C.Source.outside g.W.Sink.outside g.O.Sink.outside g.on c.args.self.now c.enter.new.self did.under_way c.requires.1.1.1.1.1 did.enters did.letter).goes

pub returns-in-Gather-clause-may : goal.returns-in-Gather-clause-may
returns-in-Gather-clause-may g c = let did = c.gather.ensures in
    (events.gather_goes g.M.Media.outside g.I.Source.outside g.C.Source.outside g.W.Sink.outside g.O.Sink.outside g.on c.args.self.now c.gather.new.self did.under_way c.requires.1.1.1.1.1 did.gathers did.letter).may

pub returns-in-Gather-clause-goes : goal.returns-in-Gather-clause-goes
returns-in-Gather-clause-goes g c = let did = c.gather.ensures in
    subst (λ z. GoesOnBy g.M.Media.outside g.I.Source.outside g.C.Source.outside g.W.Sink.outside g.O.Sink.outside g.on (letter_of z) c.args.self.now (record { run = c.gather.new.self; control = c.args.self.now.control })) (sym c.in-Gather.is)
    (events.gather_goes g.M.Media.outside g.I.Source.outside g.C.Source.outside g.W.Sink.outside g.O.Sink.outside g.on c.args.self.now c.gather.new.self did.under_way c.requires.1.1.1.1.1 did.gathers did.letter).goes

pub returns-in-Cycle-clause-may : goal.returns-in-Cycle-clause-may
returns-in-Cycle-clause-may g c = let did = c.cycle.ensures in
    (events.cycle_goes g.M.Media.outside g.I.Source.outside g.C.Source.outside g.W.Sink.outside g.O.Sink.outside g.on c.args.self.now c.cycle.new.self did.under_way c.requires.1.1.1.1.1 did.cycles did.letter).may

pub returns-in-Cycle-clause-goes : goal.returns-in-Cycle-clause-goes
returns-in-Cycle-clause-goes g c = let did = c.cycle.ensures in
    subst (λ z. GoesOnBy g.M.Media.outside g.I.Source.outside g.C.Source.outside g.W.Sink.outside g.O.Sink.outside g.on (letter_of z) c.args.self.now (record { run = c.cycle.new.self; control = c.args.self.now.control })) (sym c.in-Cycle.is)
    (events.cycle_goes g.M.Media.outside g.I.Source.outside g.C.Source.outside g.W.Sink.outside g.O.Sink.outside g.on c.args.self.now c.cycle.new.self did.under_way c.requires.1.1.1.1.1 did.cycles did.letter).goes
