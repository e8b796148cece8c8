-- The tracks so far.
use Rattle.std.proofs.Common.{◌≡◌, take}
use Rattle.session_toml.specs.Built.{numbered, listed, track_in}
use Rattle.session_toml.proofs.build.tracks_in.Given as goal

abbrev pub invariant-loop-i : goal.invariant-loop-i
invariant-loop-i l = l.tracks ≡ listed 32 (numbered (track_in l.names) 0 (take l.i l.texts))
