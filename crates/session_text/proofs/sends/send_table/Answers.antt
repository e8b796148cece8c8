use Rattle.std.proofs.Common.{refl}
use Rattle.session_text.specs.Parts.{send_table}
use Rattle.session_text.proofs.sends.send_table.Goals as goal

pub returns-clause-table : goal.returns-clause-table
unfolding send_table
returns-clause-table c = rw (
  c.in_ok-put_number.ensures,
  c.in_ok-put_flag.ensures,
  c.in_ok-put_text.ensures,
  c.new-table.ensures.empty,
  c.route_name.ensures,
  c.from.ensures,
  c.value.ensures.value,
) refl
