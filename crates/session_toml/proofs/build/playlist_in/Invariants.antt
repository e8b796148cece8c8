-- The playlist of the last k regions.
use Rattle.std.proofs.Common.{◌≡◌, ◌-◌, drop, length}
use Rattle.session_toml.specs.Built.{playlist_in}
use Rattle.session_toml.proofs.build.playlist_in.Given as goal

abbrev pub invariant-loop-k : goal.invariant-loop-k
invariant-loop-k l = l.list ≡ playlist_in l.names (drop (length l.texts - l.k) l.texts)
