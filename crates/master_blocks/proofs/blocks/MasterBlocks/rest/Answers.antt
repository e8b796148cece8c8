use Rattle.std.proofs.Common.{◌≡◌, ◌∙◌, length, replicate, ap, sym, subst}
use Rattle.ses_io.specs.Outside.{Writes}
use Rattle.master_blocks.specs.State.{IsMasterOf}
use Rattle.master_blocks.proofs.StateLemmas.{bytes_long, one_silent, rewritten}
use Rattle.master_blocks.proofs.blocks.MasterBlocks.rest.Goals as goal

pub returns-clause-writes : goal.returns-clause-writes
returns-clause-writes g c = let of = subst (IsMasterOf g.s) (sym c.self.view_is) c.requires.1 in
    let zeros : c.as_slice.result.now ≡ replicate (length c.as_mut_slice.result.now) 0
    = c.as_slice.ensures.value ∙ rewritten c.self.inside.bytes.len c.fill.new.self c.self.inside.bytes.items (c.fill.auto.self ∙ c.as_mut_slice.ensures.len) ∙ c.fill.ensures.after (λ y h. h) in
    let long : length c.as_mut_slice.result.now ≡ length c.self.inside.bytes.items = ap length c.as_mut_slice.ensures.value in
    subst (λ xs. Writes g.W.Sink.outside xs c.args.self.now.sink c.write_all.new.sink c.write_all.result)
    (one_silent g.s c.as_slice.result.now _ zeros (bytes_long g.s c.self.inside.form of.valid of.form c.self.inside.desk _ of.desk (long ∙ c.self.invariant.1)))
    (subst (λ w. Writes g.W.Sink.outside c.as_slice.result.now w c.write_all.new.sink c.write_all.result) (ap (λ m. m.sink) c.self.view_is) c.write_all.ensures)
