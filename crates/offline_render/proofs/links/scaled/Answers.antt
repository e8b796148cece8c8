use Rattle.std.proofs.Common.{◌≡◌, ◌*◌, ◌∙◌, sym, subst, arith, rules}
use Rattle.std.proofs.Common.{FitsSigned, w64}
use Rattle.std.proofs.lemmas.Int.{to_z-of_z}
use Rattle.sound_model.specs.Numbers.{scale}
use Rattle.mix_kernel.specs.Bounds.{IsNear}
use Rattle.mix_kernel.proofs.Formulas.{scale-near}
use Rattle.offline_render.proofs.links.scaled.Goals as goal

pub returns-clause-near : goal.returns-clause-near
returns-clause-near c = λ n near.
    let fits : FitsSigned w64 c.args.value = search rules in
    let whole : FitsSigned w64 c.scale.result = search rules in
    let value : c.scale.result ≡ scale c.args.value c.args.gain = simp to_z-of_z at c.scale.ensures.value in
    subst (IsNear (4 * n)) (sym (to_z-of_z w64 c.scale.result whole ∙ value)) (scale-near c.args.value c.args.gain n 262144 (4 * n) near c.value-number.ensures.bound (omega arith))
