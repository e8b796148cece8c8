use Rattle.engine_core.proofs.cycle.serial_cycle.Given as goal

abbrev pub ghost-enter : goal.ghost-enter
ghost-enter g a = g.on

abbrev pub ghost-serve : goal.ghost-serve
ghost-serve g a = g.on

abbrev pub ghost-cycle : goal.ghost-cycle
ghost-cycle g a = g.on
