use Rattle.std.proofs.Common.{◌≡◌, ◌*◌, ℕ, List, length, take, ◌∙◌, ap, ap₂, sym, arith, subst}
use Rattle.std.specs.Prelude.{ℤ}
use Rattle.ses_units.specs.Bits.{bits_of}
use Rattle.sound_model.specs.Wav.{sound_bytes}
use Rattle.engine_model.specs.Played.{master_channels}
use Rattle.master_render.specs.Written.{IsWritten}
use Rattle.master_render.proofs.BlockLemmas.{rewritten, ok_then}
use Rattle.master_render.proofs.FillLemmas.{block_fits}
use Rattle.master_render.proofs.FormLemmas.{master_most}
use Rattle.master_render.proofs.WrittenLemmas.{of_writes}
use Rattle.master_render.proofs.desk.Desk.block.Goals as goal

pub fill-requires-clause-room : goal.fill-requires-clause-room
fill-requires-clause-room g c = let fits = block_fits c.args.count (master_channels c.args.s.now) c.requires.count (master_most c.args.s.now c.requires.valid.formed) in
    omega (arith, fits, ap length c.as_mut_slice-samples.ensures.value, c.self.invariant.0)

pub returns-clause-written : goal.returns-clause-written
returns-clause-written g c = λ t w. let s = c.args.s.now in
    let same : c.as_slice.result.now ≡ c.fill.new.out
    = c.as_slice.ensures.value ∙ rewritten c.self.inside.samples.len c.fill.new.out c.self.inside.samples.items (c.fill.auto.out ∙ c.as_mut_slice-samples.ensures.len) in
    subst (λ xs. IsWritten g.W.Sink.outside (sound_bytes (bits_of s.bits) xs) c.args.master.now c.write_samples.new.master c.write_samples.result)
    (ap₂ (λ (k : ℕ) (xs : List ℤ). take (c.args.count * k) xs) c.width.ensures.width same ∙ ok_then c.fill.result (sym c.in_ok-map_err.ensures.variant) (c.fill.ensures.told t))
    (of_writes g.W.Sink.outside _ c.args.master.now c.write_samples.new.master c.write_samples.result w c.write_samples.ensures.writes)
