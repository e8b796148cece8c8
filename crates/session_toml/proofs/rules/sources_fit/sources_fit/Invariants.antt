-- Nothing was found so far.
use Rattle.std.proofs.Common.{◌≡◌, drop}
use Rattle.session_toml.specs.Rules.{sources_fit}
use Rattle.session_toml.proofs.rules.sources_fit.sources_fit.Given as goal

abbrev pub invariant-loop-track : goal.invariant-loop-track
invariant-loop-track l = sources_fit l.sources (drop l.track-index l.tracks) ≡ sources_fit l.sources l.tracks
