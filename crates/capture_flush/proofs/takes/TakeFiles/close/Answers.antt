use Rattle.std.proofs.Common.{rules}
use Rattle.ses_io.proofs.Results.{OnErr-always}
use Rattle.capture_flush.proofs.EndingLemmas.{IsWorkedOut, inside, closed_at, added_in_part, written_in_part, OnOk-map, OnErr-map}
use Rattle.capture_flush.proofs.takes.TakeFiles.close.Goals as goal

pub returns-in_err-add_ending-clause-part : goal.returns-in_err-add_ending-clause-part
returns-in_err-add_ending-clause-part g c t = OnErr-always c.from_residual.result
    (added_in_part g.s c.args.track c.args.run c.as_str-name.result.now c.header-none.result c.block_size-size.result _ _ (search rules) c.header-none.ensures c.block_size-size.ensures.size (c.in_err-add_ending.ensures.adds.front t))

pub overwrite_front-requires-clause-inside : goal.overwrite_front-requires-clause-inside
overwrite_front-requires-clause-inside g c t =
    let w : IsWorkedOut g.s c.args.track c.args.run c.as_str-name.result.now c.header-none.result c.block_size-size.result c.header-head.result
    = record { name = search rules; none_is = c.header-none.ensures; none_long = search rules; size_is = c.block_size-size.ensures.size; header_is = c.header-head.ensures; long = search rules } in
    inside g.s c.args.track c.args.run c.as_str-name.result.now c.header-none.result c.block_size-size.result c.header-head.result w _ _ (c.requires.1.1.1.1 t) (c.in_ok-add_ending.ensures.adds.all t)

pub returns-clause-all : goal.returns-clause-all
returns-clause-all g c t =
    let w : IsWorkedOut g.s c.args.track c.args.run c.as_str-name.result.now c.header-none.result c.block_size-size.result c.header-head.result
    = record { name = search rules; none_is = c.header-none.ensures; none_long = search rules; size_is = c.block_size-size.ensures.size; header_is = c.header-head.ensures; long = search rules } in
    OnOk-map c.overwrite_front.result (closed_at g.s c.args.track c.args.run c.as_str-name.result.now c.header-none.result c.block_size-size.result c.header-head.result w _ _ _ (c.in_ok-add_ending.ensures.adds.all t)) (c.overwrite_front.ensures.all t)

pub returns-clause-part : goal.returns-clause-part
returns-clause-part g c t =
    let w : IsWorkedOut g.s c.args.track c.args.run c.as_str-name.result.now c.header-none.result c.block_size-size.result c.header-head.result
    = record { name = search rules; none_is = c.header-none.ensures; none_long = search rules; size_is = c.block_size-size.ensures.size; header_is = c.header-head.ensures; long = search rules } in
    OnErr-map c.overwrite_front.result (written_in_part g.s c.args.track c.args.run c.as_str-name.result.now c.header-none.result c.block_size-size.result c.header-head.result w _ _ _ (c.in_ok-add_ending.ensures.adds.all t)) (c.overwrite_front.ensures.front t)
