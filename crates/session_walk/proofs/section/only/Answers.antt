-- The test of the keys is the test of the members.
use Rattle.std.proofs.Common.{sym, ap, ◌∙◌}
use Rattle.session_model.specs.declared.refusal.SessionRefusal.TheVariants.{Unknown}
use Rattle.session_walk.specs.Section.{holds}
use Rattle.session_walk.proofs.TableLaws.{only_is}
use Rattle.session_walk.proofs.section.only.Goals as goal

pub returns-then-are_known : goal.returns-then-are_known
returns-then-are_known c = ap (λ b. holds b (Unknown c.args.part.place)) (sym c.if-are_known.true ∙ c.are_known.ensures ∙ only_is c.args.known.now c.args.part.table.now)

pub returns-else-are_known : goal.returns-else-are_known
returns-else-are_known c = ap (λ b. holds b (Unknown c.args.part.place)) (sym c.if-are_known.false ∙ c.are_known.ensures ∙ only_is c.args.known.now c.args.part.table.now)
