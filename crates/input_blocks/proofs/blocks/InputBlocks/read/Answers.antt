use Rattle.std.proofs.Common.{◌<◌, ◌-◌, ◌∙◌, ap, refl, min, sym, subst, length, ◌*◌}
use Rattle.ses_io.proofs.Lists.{with_items-same}
use Rattle.sound_model.specs.Wav.{align}
use Rattle.wav_codec.specs.Info.{form_read}
use Rattle.input_blocks.specs.State.{IsReadTo}
use Rattle.input_blocks.proofs.FrontLemmas as fronts
use Rattle.input_blocks.proofs.BlockLemmas as blocks
use Rattle.input_blocks.proofs.blocks.InputBlocks.read.Goals as goal

pub fill-requires : goal.fill-requires
fill-requires g c κs within = let place = subst (IsReadTo g.I.Source.outside g.at) (sym c.self.view_is) c.requires.1 in
    (within, (blocks.has_room _ _ c.self.invariant (ap length c.as_mut_slice.ensures.items) (ap length c.as_mut_slice-2.ensures.items), place.left))

pub returns-in_err-frames-clause-short : goal.returns-in_err-frames-clause-short
returns-in_err-frames-clause-short g c = let info = c.self.inside.info in let same = c.as_mut_slice-2.ensures.items in
    fronts.after_a_fault c.from_residual.result (blocks.short_of c.self.view_is (record {
      asked = subst (λ n. 0 < n) (ap (λ n. min (info.frames - c.self.inside.done) n * align (form_read info)) (blocks.block_of _ c.self.invariant (ap length same)))
          c.in_err-frames.ensures.asked;
      lost = λ t. fronts.loses_of _ _ _ _ (ap (λ n. min (info.frames - c.self.inside.done) n * align (form_read info)) (blocks.block_of _ c.self.invariant (ap length same)))
          (c.in_err-frames.ensures.lost t);
      done = refl;
      samples = ap (λ l. l.items) (with_items-same c.self.inside.samples c.fill.new.out (c.fill.auto.out ∙ ap length c.as_mut_slice-2.ensures.items)) ∙ c.in_err-frames.ensures.kept ∙ same;
    }))

pub returns-clause-samples : goal.returns-clause-samples
returns-clause-samples g c = λ t. ap (λ l. l.items) (with_items-same c.self.inside.samples c.fill.new.out (c.fill.auto.out ∙ ap length c.as_mut_slice-2.ensures.items))
    ∙ c.in_ok-frames.ensures.samples t
    ∙ blocks.next_of (length c.as_mut_slice-2.result.now) c.self.view_is c.requires.1 (ap length c.as_mut_slice-2.ensures.items ∙ c.self.invariant.long)
