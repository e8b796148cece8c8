-- The tables so far.
use Rattle.toml.specs.Data.{table}
use Rattle.session_model.specs.declared.route.Route.{Route}
use Rattle.session_text.specs.Kept.{IsKeptRoute}
use Rattle.session_text.specs.Parts.{bus_table}
use Rattle.session_text.specs.Said.{names_of, said_route}
use Rattle.session_text.proofs.CodeLaws.{Wrote}
use Rattle.session_text.proofs.desk.busses.Given as goal

abbrev pub invariant-loop-q : goal.invariant-loop-q
invariant-loop-q l = Wrote (λ (q : Route). table (bus_table (said_route (names_of l.routes) q))) IsKeptRoute l.some l.q-index l.tables.items
