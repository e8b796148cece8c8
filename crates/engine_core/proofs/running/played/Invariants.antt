use Rattle.std.specs.Prelude.{[]}
use Rattle.engine_core.proofs.running.played.Given as goal

abbrev pub ghost-events : goal.ghost-events
ghost-events g a = record { opening = g.on.opening; letters = [] }

abbrev pub ghost-play_on : goal.ghost-play_on
ghost-play_on g a = g.on

abbrev pub ghost-finish : goal.ghost-finish
ghost-finish g a = g.on.opening.started
