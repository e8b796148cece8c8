-- The links so far, in a list with room for 8.
use Rattle.std.proofs.Common.{◌≡◌, take}
use Rattle.session_toml.specs.Built.{sends_in}
use Rattle.session_toml.proofs.build.sends_in.Given as goal

abbrev pub invariant-loop-send : goal.invariant-loop-send
invariant-loop-send l = l.links ≡ sends_in l.names (take l.send-index l.sends)
