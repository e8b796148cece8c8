-- One more table, or none.
use Rattle.std.proofs.Common.{sym, ◌∙◌, ◌∷◌, ap, map, Some, Bor, BTreeMap, String, Global, []}
use Rattle.std.proofs.lemmas.List.{map-append}
use Rattle.toml.specs.Data.{as_table, Members}
use Rattle.toml.specs.View.{view, table_view}
use Rattle.toml.specs.declared.value.Value.{Value}
use Rattle.session_walk.proofs.EachLaws.{each_step, each_stop}
use Rattle.session_walk.proofs.arrays.each_table.Goals as goal

pub returns-in_default : goal.returns-in_default
returns-in_default c = sym (each_stop as_table view c.args.values.now c.loop-value.value-index c.value-item.result c.loop-value-test.true
    (let e = c.in_default.ensures in cc (e, c.value-item.is)))

abbrev seen : Bor (BTreeMap (String Global) Value) → Members
seen t = table_view t.now

pub loop-value-preserved : goal.loop-value-preserved
loop-value-preserved c = each_step as_table view c.args.values.now (map seen c.loop-value.tables.items) c.loop-value.value-index c.value-item.result (seen c.in-Some.table) c.loop-value-test.true
    c.loop-value.invariant (let e = c.in-Some.ensures in cc (e, c.value-item.is))
    ∙ ap Some (sym (ap (map seen) c.in_ok-push.ensures.items ∙ map-append seen c.loop-value.tables.items (c.in-Some.table ∷ [])))
