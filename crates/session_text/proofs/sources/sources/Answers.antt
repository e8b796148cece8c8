use Rattle.toml.specs.Data.{table}
use Rattle.session_model.specs.declared.session.SourceDecl.{SourceDecl}
use Rattle.session_text.specs.Kept.{IsKeptSource}
use Rattle.session_text.specs.Parts.{source_table}
use Rattle.session_text.proofs.CodeLaws.{table-view, all-written, wrote-none, wrote-more, kept-all}
use Rattle.session_text.proofs.sources.sources.Goals as goal

pub loop-d-init : goal.loop-d-init
loop-d-init c = wrote-none _ IsKeptSource c.args.decls.now _ c.new-tables.ensures.items

pub loop-d-preserved : goal.loop-d-preserved
loop-d-preserved c =
    wrote-more _ IsKeptSource c.args.decls.now c.loop-d.d-index _ _ _ _ c.loop-d.invariant c.in_ok-push.ensures.items
    (table-view c.in_ok-source_table.field-0 _ c.in_ok-source_table.ensures.table) c.in_ok-source_table.ensures.kept c.loop-d-test.true c.d-item.is

pub returns-clause-value : goal.returns-clause-value
returns-clause-value c = all-written (λ (d : SourceDecl). table (source_table d)) c.args.decls.now c.loop-d.d-index c.loop-d.tables c.loop-d.invariant.written c.loop-d-test.false

pub returns-clause-kept : goal.returns-clause-kept
returns-clause-kept c = kept-all _ IsKeptSource c.args.decls.now c.loop-d.d-index _ c.loop-d.invariant c.loop-d-test.false
