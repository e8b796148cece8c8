use Rattle.std.proofs.Common.{◌∙◌, ◌++◌, ap, ap₂, sym, rules, codes}
use Rattle.std.specs.Prelude.{decimal}
use Rattle.capture_flush.proofs.TakingLemmas.{name_is}
use Rattle.capture_flush.proofs.takes.TakeFiles.file_name.Goals as goal

pub returns : goal.returns
returns g c = c.file_name.ensures
    ∙ ap₂ (λ takes name. takes ++ codes "-" ++ name ++ codes "-" ++ decimal c.args.take ++ codes ".wav") (search rules) (ap (λ j. j.name) (sym c.index-as_slice-track.is))
    ∙ name_is g.s c.args.self.now c.args.track c.args.take c.index-as_slice-track.result c.requires.0 c.requires.1 (search rules)
