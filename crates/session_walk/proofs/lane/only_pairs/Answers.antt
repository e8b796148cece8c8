-- The test of the values is the test of what they are seen as.
use Rattle.std.proofs.Common.{sym, ap, ◌∙◌}
use Rattle.std.proofs.lemmas.List.Folds.{list_all-map}
use Rattle.toml.specs.View.{view}
use Rattle.session_walk.specs.Lane.{is_pair}
use Rattle.session_walk.specs.Section.{holds}
use Rattle.session_walk.proofs.lane.only_pairs.Goals as goal

pub returns : goal.returns
returns c = c.holds.ensures ∙ ap (λ b. holds b c.args.refusal) (c.are_pairs.ensures ∙ sym (list_all-map is_pair view c.args.values.now))
