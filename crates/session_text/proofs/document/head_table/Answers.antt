use Rattle.std.proofs.Common.{◌≡◌, ◌-◌, ap, ◌∙◌, sym, refl, arith, length, slice_get, Some}
use Rattle.session_text.specs.Parts.{head_table}
use Rattle.session_text.specs.Said.{master}
use Rattle.session_text.proofs.CodeLaws.{item-got}
use Rattle.session_text.proofs.document.head_table.Goals as goal

pub returns-clause-table : goal.returns-clause-table
unfolding head_table
returns-clause-table c =
    let routes = c.as_slice-routes.result.now in
    let q = c.index-routes-routes.result in
    let last : slice_get routes (length routes - 1) ≡ Some q = item-got routes (length routes - 1) q (omega (arith, ap length c.as_slice-routes.ensures.items)) c.index-routes-routes.is in
    let here : master c.args.s.now ≡ Some q = ap (λ rs. slice_get rs (length rs - 1)) (sym c.as_slice-routes.ensures.items) ∙ last in
    rw (
      c.in_ok-put_text.ensures,
      c.in_ok-put_number-6.ensures,
      c.in_ok-put_number-5.ensures,
      c.in_ok-put_number-4.ensures,
      c.in_ok-put_number-3.ensures,
      c.in_ok-put_number-2.ensures,
      c.in_ok-put_number.ensures,
      c.new-table.ensures.empty,
      c.from.ensures,
      c.bits_number.ensures,
      c.from-2.ensures,
      c.from-3.ensures,
      c.from-4.ensures,
      c.as_str.ensures.bytes,
      here,
    ) refl
