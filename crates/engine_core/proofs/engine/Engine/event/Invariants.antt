use Rattle.engine_core.proofs.engine.Engine.event.Given as goal

abbrev pub ghost-carry : goal.ghost-carry
ghost-carry g a = g.on.started

abbrev pub ghost-turn : goal.ghost-turn
ghost-turn g a = g.on.started

abbrev pub ghost-enter : goal.ghost-enter
ghost-enter g a = g.on.started

abbrev pub ghost-gather : goal.ghost-gather
ghost-gather g a = g.on.started

abbrev pub ghost-cycle : goal.ghost-cycle
ghost-cycle g a = g.on.started
