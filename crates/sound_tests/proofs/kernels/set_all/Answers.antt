use Rattle.std.proofs.Common.{sym, subst, w64, to_z, of_z}
use Rattle.std.proofs.lemmas.Int.{to_z-of_z}
use Rattle.std.proofs.lemmas.List.Elements.{All-same, All-replicate}
use Rattle.mix_kernel.specs.Bounds.{IsNear}
use Rattle.sound_tests.proofs.kernels.set_all.Goals as goal

pub returns : goal.returns
returns c =
    let near = subst (IsNear 17592186044416) (sym (to_z-of_z w64 c.args.sum c.ranges.sum)) c.requires in
    All-same (IsNear 17592186044416) _ _ c.fill_all.ensures (All-replicate (IsNear 17592186044416) _ (to_z w64 (of_z w64 c.args.sum)) near)
