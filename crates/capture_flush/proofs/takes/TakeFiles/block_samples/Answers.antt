use Rattle.std.proofs.Common.{◌∙◌, ap, ap₂, sym, subst, ◌*◌, ◌<◌, ◌≤◌, rules}
use Rattle.capture_flush.proofs.TakingLemmas.{samples_are, few_samples}
use Rattle.capture_flush.proofs.takes.TakeFiles.block_samples.Goals as goal

pub returns-clause-samples : goal.returns-clause-samples
returns-clause-samples g c = ap₂ (λ m n. m * n) (search rules) (c.from.ensures ∙ ap (λ j. j.channels) (sym c.index-as_slice-track.is))
    ∙ samples_are g.s c.args.self.now c.args.track c.index-as_slice-track.result c.requires.0 c.requires.1 (search rules)

pub returns-clause-few : goal.returns-clause-few
returns-clause-few g c = subst (λ n. n ≤ c.args.self.now.block * 2) (sym (returns-clause-samples g c)) (few_samples g.s c.args.self.now c.args.track c.requires.0 c.requires.1).0

pub returns-clause-some : goal.returns-clause-some
returns-clause-some g c = subst (λ n. 0 < n) (sym (returns-clause-samples g c)) (few_samples g.s c.args.self.now c.args.track c.requires.0 c.requires.1).1
