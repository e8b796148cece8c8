-- The text stands over the first of 24 zeros.
use Rattle.std.proofs.Common.{rules}
use Rattle.ses_units.proofs.NameLemmas.{HoldsName-written}
use Rattle.ses_units.proofs.name.Name.new.Goals as goal

pub invariant_of-result : goal.invariant_of-result
invariant_of-result c = HoldsName-written _ _ (search rules) c.copy_from_slice.ensures.after
