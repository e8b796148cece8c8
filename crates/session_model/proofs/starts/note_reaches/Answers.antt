-- The reach of a stretch is the greatest end so far.
use Rattle.std.proofs.Common.{◌≡◌, ◌<◌, List, length, get_or, ◌∙◌, arith}
use Rattle.std.proofs.lemmas.List.{get_or_default}
use Rattle.session_model.specs.declared.starts.Stretch.{Stretch}
use Rattle.session_model.proofs.StartLemmas.{bare-set, reaching_more}
use Rattle.session_model.proofs.starts.note_reaches.Goals as goal

pub loop-s-preserved : goal.loop-s-preserved
loop-s-preserved c =
    let index : List Stretch = c.loop-s.index in
    let i = c.loop-s.s-index in
    let s : Stretch = get_or index i (record { place = 0; at = 0; end = 0; reach = 0 }) in
    let h : i < length index = omega (arith, c.loop-s.auto.index, c.loop-s-test.true) in
    let is : s ≡ get_or index i s = get_or_default index i (record { place = 0; at = 0; end = 0; reach = 0 }) s h in (
      bare-set index i s c.max-reach.result h is ∙ c.loop-s.invariant.0,
      reaching_more c.loop-s.reach c.max-reach.result index i s h c.max-reach.ensures c.loop-s.invariant.1,
    )
