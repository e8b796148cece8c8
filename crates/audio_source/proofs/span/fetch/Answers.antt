use Rattle.std.proofs.Common.{◌*◌, ◌/◌}
use Rattle.std.proofs.Math.Nat.{mul-mod_left}
use Rattle.audio_source.proofs.span.fetch.Goals as goal

pub returns-clause-whole : goal.returns-clause-whole
returns-clause-whole g c = let size = c.args.info.now.channels * (c.args.info.now.bits / 8) in mul-mod_left (c.in_ok-filled.filled / size) size
