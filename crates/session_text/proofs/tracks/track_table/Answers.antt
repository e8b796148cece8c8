use Rattle.std.proofs.Common.{refl}
use Rattle.session_text.specs.Parts.{track_table}
use Rattle.session_text.specs.Said.{said_track}
use Rattle.session_text.proofs.tracks.track_table.Goals as goal

pub returns-clause-table : goal.returns-clause-table
unfolding track_table said_track
returns-clause-table c = rw (
  c.in_ok-put_input.ensures,
  c.in_ok-put.ensures,
  c.in_ok-regions.ensures.value,
  c.in_ok-put_flag-2.ensures,
  c.in_ok-put_flag.ensures,
  c.in_ok-table.ensures.table,
) refl
