-- The tables so far.
use Rattle.std.proofs.Common.{map}
use Rattle.toml.specs.Data.{table}
use Rattle.session_text.specs.Parts.{track_table}
use Rattle.session_text.specs.Said.{names_of, said_track}
use Rattle.session_text.proofs.CodeLaws.{Wrote}
use Rattle.session_text.proofs.PairLaws.{IsKeptPair, beside}
use Rattle.session_text.proofs.desk.tracks.Given as goal

abbrev pub invariant-loop-i : goal.invariant-loop-i
invariant-loop-i l = Wrote (λ p. table (track_table (said_track (map (λ d. d.name) l.sources) (names_of l.routes) p))) IsKeptPair (beside l.routes l.tracks) l.i l.tables.items
