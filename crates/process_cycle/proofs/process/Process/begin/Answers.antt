use Rattle.std.proofs.Common.{sym, subst}
use Rattle.process_cycle.specs.Playing.{IsPlaying}
use Rattle.process_cycle.proofs.BeginLemmas.{plays_on}
use Rattle.process_cycle.proofs.process.Process.begin.Goals as goal

pub returns-in_err-begin-clause-playing : goal.returns-in_err-begin-clause-playing
returns-in_err-begin-clause-playing g c = plays_on g.I.Source.outside g.at _ c.begin.new.self c.begin.ensures.same (subst (IsPlaying g.I.Source.outside g.at) (sym c.self.view_is) c.requires.1.1.0)

pub returns-clause-playing : goal.returns-clause-playing
returns-clause-playing g c = plays_on g.I.Source.outside g.at _ c.begin.new.self c.begin.ensures.same (subst (IsPlaying g.I.Source.outside g.at) (sym c.self.view_is) c.requires.1.1.0)
