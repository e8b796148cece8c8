use Rattle.std.proofs.Common.{rules, refl}
use Rattle.capture_flush.specs.Blocks.{block_samples}
use Rattle.capture_flush.proofs.TakingLemmas.{few_samples, room_for}
use Rattle.capture_flush.specs.Blocks.{block_of}
use Rattle.capture_flush.specs.Taking.{last_of}
use Rattle.capture_flush.proofs.AddLemmas.{added-whole, added-in_zeros, added-in_head}
use Rattle.capture_flush.proofs.takes.TakeFiles.add.Goals as goal

pub returns-in_err-begin-clause-adds : goal.returns-in_err-begin-clause-adds
returns-in_err-begin-clause-adds g c = added-in_head g.M.Media.outside g.s c.args.track (last_of c.args.self.now c.args.track) (block_of c.args.b.now) c.as_str-name.result.now _ _ _ _ _ _ c.from_residual.ensures.0 (search rules) (search rules) c.in_err-begin.ensures

pub returns-in_err-add_zeros-clause-adds : goal.returns-in_err-add_zeros-clause-adds
returns-in_err-add_zeros-clause-adds g c = added-in_zeros g.M.Media.outside g.s c.args.track (last_of c.args.self.now c.args.track) (block_of c.args.b.now) c.as_str-name.result.now _ _ _ _ _ _ _ _ _ c.from_residual-in_err-add_zeros.ensures.0 (search rules)
    (record { heads = search rules; skips = search rules; sounds = refl }) c.in_ok-begin.ensures c.in_err-add_zeros.ensures.adds

pub returns-clause-adds : goal.returns-clause-adds
returns-clause-adds g c = added-whole g.M.Media.outside g.s c.args.track (last_of c.args.self.now c.args.track) (block_of c.args.b.now) c.as_str-name.result.now _ _ _ _ _ _ _ _ _ (search rules)
    (record { heads = search rules; skips = search rules; sounds = search rules }) c.in_ok-begin.ensures c.in_ok-add_zeros.ensures.adds c.append_sound.ensures

pub append_sound-requires : goal.append_sound-requires
append_sound-requires g c = record { room = room_for c.args.b.now.samples.items c.as_slice.result.now c.as_mut_slice-bytes.result.now c.args.self.now.block (block_samples g.s c.args.track) (c.as_slice.ensures.items) c.requires.1.1.1 (few_samples g.s c.args.self.now c.args.track c.requires.1.0 c.requires.1.1.0).0 (search rules) }
