use Rattle.std.proofs.Common.{rules}
use Rattle.play_window.proofs.window.Window.pass.Goals as goal

pub returns-clause-noted : goal.returns-clause-noted
returns-clause-noted c = search rules
