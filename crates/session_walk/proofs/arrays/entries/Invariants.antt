-- The entries so far, in a list with that room.
use Rattle.std.proofs.Common.{◌≡◌, map, take, length}
use Rattle.std.specs.Prelude.{Ok}
use Rattle.toml.specs.View.{table_view}
use Rattle.session_walk.specs.Arrays.{entries_from}
use Rattle.session_walk.proofs.arrays.entries.Given as goal

abbrev pub invariant-loop-i : goal.invariant-loop-i
invariant-loop-i g l = record {
  entries : entries_from (g.T.Entry.says l.version) l.base 1 (map (λ t. table_view t.now) (take l.i l.rows)) ≡ Ok l.all.items;
  many : length l.all.items ≡ l.i;
  room : l.all.room ≡ l.room;
}
