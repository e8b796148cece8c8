use Rattle.std.proofs.Common.{◌≤◌, ◌∙◌, ap, sym}
use Rattle.toml.specs.Data.{table}
use Rattle.session_model.specs.declared.route.SendLink.{SendLink}
use Rattle.session_text.specs.Parts.{send_table}
use Rattle.session_text.specs.Said.{names_of, said_send}
use Rattle.session_text.specs.Tables.{values}
use Rattle.session_text.proofs.ListLaws.{map-map}
use Rattle.session_text.proofs.CodeLaws.{table-view, all-written, wrote-none, wrote-more, kept-all}
use Rattle.session_text.proofs.sends.sends.Goals as goal

pub loop-l-init : goal.loop-l-init
loop-l-init c = wrote-none _ (λ (k : SendLink). k.gain ≤ 262144) c.args.links.now _ c.new-tables.ensures.items

pub loop-l-preserved : goal.loop-l-preserved
loop-l-preserved c =
    wrote-more _ (λ (k : SendLink). k.gain ≤ 262144) c.args.links.now c.loop-l.l-index _ _ _ _ c.loop-l.invariant c.in_ok-push.ensures.items
    (table-view c.in_ok-send_table.field-0 _ c.in_ok-send_table.ensures.table) c.in_ok-send_table.ensures.kept c.loop-l-test.true c.l-item.is

pub returns-clause-value : goal.returns-clause-value
returns-clause-value c =
    all-written (λ (k : SendLink). table (send_table (said_send (names_of c.args.routes.now) k))) c.args.links.now c.loop-l.l-index c.loop-l.tables c.loop-l.invariant.written c.loop-l-test.false
    ∙ ap values (sym (map-map (said_send (names_of c.args.routes.now)) (λ k. table (send_table k)) c.args.links.now))

pub returns-clause-kept : goal.returns-clause-kept
returns-clause-kept c = kept-all _ (λ (k : SendLink). k.gain ≤ 262144) c.args.links.now c.loop-l.l-index _ c.loop-l.invariant c.loop-l-test.false
