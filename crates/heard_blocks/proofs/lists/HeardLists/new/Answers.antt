use Rattle.std.proofs.Common.{◌∙◌, refl, subst}
use Rattle.engine_model.specs.MayMake.{KeepsItsTypes}
use Rattle.heard_blocks.proofs.BringLemmas.{first_lists}
use Rattle.heard_blocks.proofs.lists.HeardLists.new.Goals as goal

pub returns-clause-lists : goal.returns-clause-lists
returns-clause-lists c = λ edits. let opened = c.in_ok-opening.ensures.first.0 ∙ c.in_ok-try_clone.ensures in
    first_lists c.args.s.now edits _ c.requires.valid (subst KeepsItsTypes opened c.session.ensures.seen.types)
    (c.in_ok-try_clone-2.ensures ∙ c.session.ensures.session ∙ opened) refl
