-- A stretch that goes on beyond the position marks its place.
use Rattle.std.proofs.Common.{◌≡◌, false, List, get_or, refl}
use Rattle.std.proofs.lemmas.List.{get_or-replicate, get_or_default}
use Rattle.session_model.specs.declared.starts.Stretch.{Stretch}
use Rattle.session_model.proofs.StartLemmas.{marked, unmarked}
use Rattle.session_model.proofs.starts.mark.Goals as goal
use Rattle.session_model.proofs.starts.mark.Goals.{then-from-s, else-from-s}

pub loop-s-init : goal.loop-s-init
loop-s-init c = (refl, λ k l. get_or-replicate 256 k false false l)

pub loop-s-preserved : goal.loop-s-preserved
loop-s-preserved c =
    let part : List Stretch = c.args.part.now in
    let i = c.loop-s.s-index in
    let s : Stretch = get_or part i (record { place = 0; at = 0; end = 0; reach = 0 }) in
    let is : s ≡ get_or part i s = get_or_default part i (record { place = 0; at = 0; end = 0; reach = 0 }) s c.loop-s-test.true in
    elim c.if-from-s.branch [
      | then-from-s w ↦ marked c.args.from part i s c.loop-s.marks c.if-from-s.marks c.loop-s-test.true is
          ((c.requires i (record { place = 0; at = 0; end = 0; reach = 0 }) c.loop-s-test.true).place) w.if-from-s.true w.marks-is c.loop-s.invariant
      | else-from-s w ↦ unmarked c.args.from part i s c.loop-s.marks c.if-from-s.marks c.loop-s-test.true is w.if-from-s.false w.marks-is c.loop-s.invariant
    ]
