use Rattle.std.proofs.Common.{◌≡◌, ◌*◌, ◌∙◌, length, refl, sym, rules}
use Rattle.master_blocks.proofs.StateLemmas.{new_bytes}
use Rattle.master_blocks.proofs.blocks.MasterBlocks.new.Goals as goal

pub invariant_of-result : goal.invariant_of-result
invariant_of-result g c =
    let frames : length c.in-Ok-vec.places.items ≡ c.args.s.now.block = search rules in
    let long : length c.in-Ok-vec-2.bytes.items ≡ c.args.s.now.block * c.form_of-form.result.channels * c.sample_size.result = search rules in (
      frames ∙ sym c.in-Ok.ensures.session.block,
      new_bytes c.args.s.now c.form_of-form.result c.requires c.form_of-form.ensures c.in-Ok.desk _ c.args.s.now.block c.sample_size.result c.in-Ok.ensures.session long refl c.sample_size.ensures.size,
    )
