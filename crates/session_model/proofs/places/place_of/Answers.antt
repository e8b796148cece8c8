-- No region lies above past the end.
use Rattle.std.proofs.Common.{◌∙◌, ap, length}
use Rattle.std.specs.Option.{unwrap_or}
use Rattle.session_model.proofs.WriteLemmas.{unwrap_or-position}
use Rattle.session_model.proofs.places.place_of.Goals as goal

pub returns-clause-place : goal.returns-clause-place
returns-clause-place c =
    c.unwrap_or.ensures ∙ ap (λ found. unwrap_or found (length c.args.regions.now)) c.first_above.ensures ∙ unwrap_or-position _ c.args.regions.now
