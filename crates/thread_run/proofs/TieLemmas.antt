-- The end of a list leaves its edits.
use Rattle.std.proofs.Common.{◌≡◌, ap}
use Rattle.std.specs.Prelude.{true, Result, Ok, Err, MatchResult}
use Rattle.edition_log.specs.EditionState.{EditionState as Edition}

pub still_edits : {X Y : Type 0} (r : Result X Y) (old new : Edition) → MatchResult r (λ x. new ≡ record old { ended = true }) (λ y. new ≡ old) → new.edits ≡ old.edits
still_edits (Ok x) old new is = ap (λ (e : Edition). e.edits) is
still_edits (Err y) old new is = ap (λ (e : Edition). e.edits) is
