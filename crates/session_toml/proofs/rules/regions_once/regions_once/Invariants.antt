-- Nothing was found so far.
use Rattle.std.proofs.Common.{◌≡◌, drop}
use Rattle.session_toml.specs.Rules.{regions_once}
use Rattle.session_toml.proofs.rules.regions_once.regions_once.Given as goal

abbrev pub invariant-loop-track : goal.invariant-loop-track
invariant-loop-track l = regions_once (drop l.track-index l.tracks) ≡ regions_once l.tracks
