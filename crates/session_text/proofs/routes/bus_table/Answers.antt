use Rattle.std.proofs.Common.{refl}
use Rattle.session_text.specs.Parts.{bus_table}
use Rattle.session_text.specs.Said.{said_route}
use Rattle.session_text.proofs.routes.bus_table.Goals as goal

pub returns-clause-table : goal.returns-clause-table
unfolding bus_table said_route
returns-clause-table c = rw (
  c.in_ok-put_fader.ensures.table,
  c.in_ok-put.ensures,
  c.in_ok-sends.ensures.value,
  c.in_ok-put_number-3.ensures,
  c.in_ok-put_number-2.ensures,
  c.in_ok-put_text-2.ensures,
  c.in_ok-put_number.ensures,
  c.in_ok-put_text.ensures,
  c.new-table.ensures.empty,
  c.as_str.ensures.bytes,
  c.from.ensures,
  c.out_name.ensures,
  c.from-2.ensures,
  c.value.ensures.value,
  c.from-3.ensures,
  c.value-2.ensures.value,
  c.as_slice.ensures.items,
) refl
