use Rattle.std.proofs.Common.{ap, ◌∙◌}
use Rattle.toml.specs.View.{view, table_view}
use Rattle.session_text.specs.Tables.{with_member}
use Rattle.session_text.proofs.TableLaws.{inserted}
use Rattle.session_text.proofs.tables.put.Goals as goal

pub returns : goal.returns
returns c =
    rw c.in_ok-insert.ensures.entries
    (inserted c.args.table.now.entries c.in_ok-name.name c.args.value
    ∙ ap (λ n. with_member n (view c.args.value) (table_view c.args.table.now)) (c.in_ok-name.ensures.ok ∙ c.word.ensures))
