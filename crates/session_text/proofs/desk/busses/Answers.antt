use Rattle.std.proofs.Common.{◌∙◌, ap, sym, length}
use Rattle.toml.specs.Data.{table}
use Rattle.session_model.specs.declared.route.Route.{Route}
use Rattle.session_text.specs.Kept.{IsKeptRoute}
use Rattle.session_text.specs.Parts.{bus_table}
use Rattle.session_text.specs.Said.{names_of, said_route}
use Rattle.session_text.specs.Tables.{values}
use Rattle.session_text.specs.Within.{LeadsWithin}
use Rattle.session_text.proofs.ListLaws.{map-map}
use Rattle.session_text.proofs.CodeLaws.{read-item, table-view, all-written, wrote-none, wrote-more, kept-all}
use Rattle.session_text.proofs.desk.busses.Goals as goal

pub loop-q-init : goal.loop-q-init
loop-q-init c = wrote-none _ IsKeptRoute c.args.some.now _ c.new-tables.ensures.items

pub bus_table-requires : goal.bus_table-requires
bus_table-requires c = read-item (LeadsWithin (length c.args.routes.now)) c.args.some.now c.loop-q.q-index c.q-item.result c.requires c.loop-q-test.true c.q-item.is

pub loop-q-preserved : goal.loop-q-preserved
loop-q-preserved c =
    wrote-more _ IsKeptRoute c.args.some.now c.loop-q.q-index _ _ _ _ c.loop-q.invariant c.in_ok-push.ensures.items
    (table-view c.in_ok-bus_table.field-0 _ c.in_ok-bus_table.ensures.table) c.in_ok-bus_table.ensures.kept c.loop-q-test.true c.q-item.is

pub returns-clause-value : goal.returns-clause-value
returns-clause-value c =
    all-written (λ (q : Route). table (bus_table (said_route (names_of c.args.routes.now) q))) c.args.some.now c.loop-q.q-index c.loop-q.tables c.loop-q.invariant.written c.loop-q-test.false
    ∙ ap values (sym (map-map (said_route (names_of c.args.routes.now)) (λ q. table (bus_table q)) c.args.some.now))

pub returns-clause-kept : goal.returns-clause-kept
returns-clause-kept c = kept-all _ IsKeptRoute c.args.some.now c.loop-q.q-index _ c.loop-q.invariant c.loop-q-test.false
