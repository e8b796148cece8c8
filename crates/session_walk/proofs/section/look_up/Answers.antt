-- What the table's map finds at the key is the member there.
use Rattle.toml.proofs.Views.{table_get}
use Rattle.session_walk.proofs.section.look_up.Goals as goal

pub returns : goal.returns
returns c = table_get c.get.result c.args.key.now c.args.table.now.entries c.get.ensures.value
