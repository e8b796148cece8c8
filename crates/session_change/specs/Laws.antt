-- What is said of changes.
use Rattle.std.specs.Prelude.{◌≡◌, ℕ, false, List}
use Rattle.session_model.specs.declared.session.Session.{Session}
use Rattle.session_model.specs.Views.{routes_of}
use Rattle.engine_model.specs.Changes.{Change, made}
use Rattle.route_graph.specs.Order.{IsOrder}
use Rattle.session_change.specs.Change.{relinks}

-- Where a change is of no link, an order of the routes stays one.
abbrev pub AChangeThatRelinksNothingKeepsTheOrder : Type 0
AChangeThatRelinksNothingKeepsTheOrder = (s : Session) (c : Change) (order : List ℕ) → relinks c ≡ false → IsOrder (routes_of s) order → IsOrder (routes_of (made s c)) order
