use Rattle.std.proofs.Common.{◌≡◌, ◌∙◌, ap, sym, length, cond}
use Rattle.std.specs.Prelude.{pos}
use Rattle.std.proofs.lemmas.List.{length-replicate}
use Rattle.mix_kernel.specs.Blocks.{clipped}
use Rattle.route_mix.specs.Blocks.{silence}
use Rattle.route_mix.proofs.BlockLemmas.{clip_silence}
use Rattle.route_mix.proofs.sums.Sums.give.Goals as goal

pub returns-else-self : goal.returns-else-self
returns-else-self c =
    let own : c.args.self.now ≡ silence (length c.self.inside.sums.items) = sym c.self.view_is ∙ ap (λ b. cond b c.self.inside.sums.items (silence (length c.self.inside.sums.items))) c.if-self.false in
    let long : length c.args.out.now ≡ length c.self.inside.sums.items = c.requires ∙ ap length own ∙ length-replicate (length c.self.inside.sums.items) (pos 0) in
    c.hush.ensures ∙ ap silence long ∙ sym (clip_silence (length c.self.inside.sums.items)) ∙ ap clipped (sym own)
