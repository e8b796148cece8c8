-- Each region's stretch comes behind those added.
use Rattle.std.proofs.Common.{ℕ, List, [], ◌∷◌, ◌++◌, length, refl, ap, ◌∙◌, arith}
use Rattle.ses_io.specs.FixedList.{Listed}
use Rattle.session_model.specs.declared.starts.Stretch.{Stretch}
use Rattle.session_model.specs.Region.{regions_of}
use Rattle.session_model.specs.Starts.{stretches_from}
use Rattle.session_model.proofs.SpanLemmas.{region_at}
use Rattle.session_model.proofs.StartLemmas.{filled_more, filled_all}
use Rattle.session_model.proofs.starts.fill.Goals as goal

pub loop-place-init : goal.loop-place-init
loop-place-init c = (
  refl,
  (omega (arith, ap length c.requires.empty), ap (λ items. items ++ stretches_from 0 (regions_of c.args.regions.now)) c.requires.empty),
)

pub stretch_of-requires : goal.stretch_of-requires
stretch_of-requires c = region_at c.args.regions.now c.loop-place.place c.index-regions-place.result c.requires.limits c.loop-place-test.true c.index-regions-place.is

pub loop-place-preserved : goal.loop-place-preserved
loop-place-preserved c =
    let items_of : Listed Stretch → List Stretch = λ l. l.items in
    let room_of : Listed Stretch → ℕ = λ l. l.room in (
      ap room_of c.push.ensures ∙ c.loop-place.invariant.0,
      filled_more c.args.regions.now c.loop-place.place c.index-regions-place.result c.loop-place.list.items c.push.new.self.items c.loop-place-test.true c.index-regions-place.is
          (ap items_of c.push.ensures ∙ ap (λ s. c.loop-place.list.items ++ s ∷ []) c.stretch_of.ensures) c.loop-place.invariant.1,
    )

pub returns-clause-items : goal.returns-clause-items
returns-clause-items c = filled_all c.args.regions.now c.loop-place.place c.loop-place.list.items c.loop-place-test.false c.loop-place.invariant.1
