use Rattle.std.proofs.Common.{◌∙◌, sym, subst, rules, FitsSigned, w32, w64, to_z, of_z}
use Rattle.std.proofs.lemmas.Int.{to_z-of_z}
use Rattle.mix_kernel.specs.Bounds.{IsNear}
use Rattle.mix_kernel.proofs.Formulas.{sample-near}
use Rattle.offline_render.proofs.links.taken.Goals as goal

pub returns-clause-near : goal.returns-clause-near
returns-clause-near c =
    let whole : FitsSigned w64 c.scaled.result = search rules in
    let wide : FitsSigned w64 c.from.result = search rules in
    let small : FitsSigned w32 c.if-link.value = search rules in
    let near : IsNear 2147483648 (to_z w64 (of_z w64 c.from.result)) =
    subst (IsNear 2147483648) (sym (to_z-of_z w64 c.from.result wide ∙ c.from.ensures ∙ c.if-link.value-is)) (sample-near c.if-link.value small) in
    subst (IsNear 8589934592) (sym (to_z-of_z w64 c.scaled.result whole)) (c.scaled.ensures.near 2147483648 near)
