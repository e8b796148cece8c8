-- A name that isn't there has the place after the last.
use Rattle.std.proofs.Common.{◌∙◌, ap, length}
use Rattle.std.specs.Option.{unwrap_or}
use Rattle.session_toml.proofs.PlaceLaws.{place-found}
use Rattle.session_toml.proofs.places.place_of.Goals as goal

pub returns-clause-place : goal.returns-clause-place
returns-clause-place c =
    c.unwrap_or.ensures ∙ ap (λ found. unwrap_or found (length c.args.names.now)) c.position_of.ensures.place ∙ place-found _ c.args.names.now
