-- Nothing was found so far.
use Rattle.std.proofs.Common.{◌≡◌, drop}
use Rattle.session_toml.specs.Rules.{sources_there}
use Rattle.session_toml.proofs.rules.sources_there.sources_there.Given as goal

abbrev pub invariant-loop-track : goal.invariant-loop-track
invariant-loop-track l = sources_there l.sources (drop l.track-index l.tracks) ≡ sources_there l.sources l.tracks
