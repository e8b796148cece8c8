use Rattle.std.proofs.Common.{rules, ◌≡◌, ◌∙◌, ap, sym, length, take, cond, arith}
use Rattle.std.specs.Prelude.{pos}
use Rattle.std.proofs.lemmas.List.{length-replicate}
use Rattle.route_mix.specs.Blocks.{silence}
use Rattle.route_mix.proofs.BlockLemmas.{take_silence}
use Rattle.route_mix.proofs.sound.Sound.shown.Goals as goal

pub returns-else-self : goal.returns-else-self
returns-else-self c =
    let own : c.args.self.now ≡ silence (length c.self.inside.samples.items) = sym c.self.view_is ∙ ap (λ b. cond b c.self.inside.samples.items (silence (length c.self.inside.samples.items))) c.if-self.false in
    let counted : c.len.result ≡ length c.self.inside.samples.items = search rules in
    let long : c.len.result ≡ length c.args.self.now = counted ∙ sym (ap length own ∙ length-replicate (length c.self.inside.samples.items) (pos 0)) in
    ap (take c.len.result) c.requires.zeros ∙ take_silence c.len.result (length c.args.zeros.now) (omega (arith, long, c.requires.room))
    ∙ ap silence counted ∙ sym own
