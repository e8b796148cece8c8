use Rattle.std.proofs.Common.{◌≡◌, rules}
use Rattle.std.specs.List.{slice_split}
use Rattle.std.proofs.lemmas.Iterator.Splits.{YieldsList-from_slice_split}
use Rattle.std.proofs.lemmas.Iterator.Consumers.{YieldsList-end}
use Rattle.edit_script.specs.Words as spec
use Rattle.edit_script.specs.Kept.{texts}
use Rattle.edit_script.proofs.WordLemmas.{first_kept, counted}
use Rattle.edit_script.proofs.words.Words.of.Goals as goal

all_parts : (c : goal.In-None) → texts c.loop-part.yielded ≡ slice_split spec.is_blank c.args.line.now
all_parts c = (YieldsList-end (YieldsList-from_slice_split _ spec.is_blank c.args.line.now (cc) (cc) (cc) (λ x b q k. search rules))
    c.loop-part.yielded _ c.loop-part.yielded_by _ _ c.in-None.is c.next.ensures.steps).0

pub returns-clause-first : goal.returns-clause-first
returns-clause-first c = first_kept c.loop-part.words c.loop-part.yielded c.args.line.now (all_parts c) c.loop-part.invariant

pub returns-clause-count : goal.returns-clause-count
returns-clause-count c = counted c.loop-part.words c.loop-part.yielded c.args.line.now (all_parts c) c.loop-part.invariant c.requires
