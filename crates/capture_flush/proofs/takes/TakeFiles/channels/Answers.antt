use Rattle.std.proofs.Common.{◌∙◌, ◌≤◌, rules, sym, ap, subst}
use Rattle.capture_flush.proofs.TakingLemmas.{track_at, track_channels}
use Rattle.capture_flush.proofs.takes.TakeFiles.channels.Goals as goal

pub returns-clause-channels : goal.returns-clause-channels
returns-clause-channels g c = ap (λ j. j.channels) (sym c.index-as_slice-track.is) ∙ (track_at g.s c.args.self.now c.args.track c.index-as_slice-track.result c.requires.0 c.requires.1 (search rules)).channels

pub returns-clause-least : goal.returns-clause-least
returns-clause-least g c = subst (λ n. 1 ≤ n) (sym (returns-clause-channels g c)) (track_channels g.s c.args.track c.requires.0.valid c.requires.1).0

pub returns-clause-most : goal.returns-clause-most
returns-clause-most g c = subst (λ n. n ≤ 2) (sym (returns-clause-channels g c)) (track_channels g.s c.args.track c.requires.0.valid c.requires.1).1
