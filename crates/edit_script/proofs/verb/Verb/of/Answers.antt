use Rattle.std.proofs.Common.{refl, sym, ◌∙◌}
use Rattle.edit_script.proofs.VerbLemmas.{all_rows}
use Rattle.edit_script.proofs.verb.Verb.of.Goals as goal

pub returns : goal.returns
returns c = c.among.ensures ∙ sym (all_rows c.args.first.now c.args.words _ refl)
