use Rattle.std.proofs.Common.{◌*◌, ◌/◌}
use Rattle.std.proofs.Math.Nat.{mul-mod_left}
use Rattle.audio_source.proofs.ByteLaws.{depth_width, least_size}
use Rattle.input_blocks.proofs.FrontLemmas.{front_of}
use Rattle.input_blocks.proofs.filling.fetch.Goals as goal

pub returns-clause-whole : goal.returns-clause-whole
returns-clause-whole g c = let size = c.args.info.now.channels * (c.args.info.now.bits / 8) in mul-mod_left (c.in_ok-filled.filled / size) size

pub returns-clause-front : goal.returns-clause-front
returns-clause-front g c = λ t. let info = c.args.info.now in let form = c.requires.found.form in
    front_of (least_size info.channels (info.bits / 8) form.one_channel (depth_width info.bits form.bits))
    (rw c.read_full.auto.buf c.requires.whole) (c.in_ok-filled.ensures.bytes t) (c.in_ok-filled.ensures.all t)
