use Rattle.std.proofs.Common.{refl}
use Rattle.session_text.specs.Parts.{master_table}
use Rattle.session_text.specs.Said.{said_master}
use Rattle.session_text.proofs.routes.master_table.Goals as goal

pub returns-clause-table : goal.returns-clause-table
unfolding master_table said_master
returns-clause-table c = rw (c.in_ok-put_fader.ensures.table, c.new-table.ensures.empty) refl
