-- The stretches of the regions, in another order.
use Rattle.std.proofs.Common.{List, length, map, sym, ap, ◌∙◌, subst, arith, All}
use Rattle.std.specs.List.{list_any}
use Rattle.std.proofs.lemmas.List.Sorted.{list_any-IsPermutation}
use Rattle.session_model.specs.declared.starts.Stretch.{Stretch}
use Rattle.session_model.specs.Region.{regions_of}
use Rattle.session_model.specs.Starts.{bare, IsStretch, IsRising}
use Rattle.session_model.proofs.WriteLemmas.{written_back}
use Rattle.session_model.proofs.StartLemmas.{all_stretches, bare-stretches_from}
use Rattle.session_model.proofs.starts.Starts.renew.Goals as goal

pub order-requires : goal.order-requires
order-requires c =
    let P : List Stretch → Type 0 = All IsStretch in
    subst P (sym (c.as_mut_slice.ensures.items ∙ c.fill.ensures.items)) (all_stretches c.args.regions.now c.requires.few c.requires.limits)

pub returns : goal.returns
returns c = λ p.
    ap (λ ss. list_any p (map bare ss)) (written_back c.fill.new.list.items c.order.new.index (c.order.auto.index ∙ ap length c.as_mut_slice.ensures.items))
    ∙ sym (list_any-IsPermutation p (map bare c.as_mut_slice.result.now) (map bare c.order.new.index) c.order.ensures.same)
    ∙ ap (λ ss. list_any p (map bare ss)) (c.as_mut_slice.ensures.items ∙ c.fill.ensures.items)
    ∙ ap (list_any p) (bare-stretches_from 0 (regions_of c.args.regions.now))

pub invariant_of-self : goal.invariant_of-self
invariant_of-self c = (
  subst IsRising (sym (written_back c.fill.new.list.items c.order.new.index (c.order.auto.index ∙ ap length c.as_mut_slice.ensures.items))) c.order.ensures.rising,
  omega (arith, c.fill.ensures.room, c.empty.ensures.room, c.self.invariant.1),
)
