use Rattle.std.proofs.Common.{sym, subst, arith, rules}
use Rattle.std.proofs.Common.{FitsSigned, w64}
use Rattle.std.proofs.lemmas.Int.{ints, to_z-of_z}
use Rattle.mix_kernel.specs.Bounds.{IsNear}
use Rattle.offline_render.proofs.links.given.Goals as goal

pub returns-after-c-eq0-clause-near : goal.returns-after-c-eq0-clause-near
returns-after-c-eq0-clause-near c =
    let whole : FitsSigned w64 c.scaled.result = search rules in
    subst (IsNear 34359738368) (sym (to_z-of_z w64 c.scaled.result whole)) (c.scaled.ensures.near 8589934592 (omega (arith, ints), omega (arith, ints)))
