-- Grants, as the two ends of their ring know them. Lists stand oldest first.
use Rattle.std.specs.Prelude.{ℕ, max, List, [], ◌∷◌, length, map}
use Rattle.engine_model.specs.Waited as engine
use Rattle.engine_model.specs.Waited.{Grants}
use Rattle.disk_ring.specs.Receiver.{Receiver}
use Rattle.disk_ring.specs.Sender.{Sender}
use Rattle.run_world.specs.declared.finished.Grant.{Grant}

-- as the definitions of the engine have it
abbrev pub grant_of : Grant → engine.Grant
grant_of g = record { cycles = g.cycles; edition = g.edition }

-- those that were received, and those that were sent
abbrev pub grants_in : Receiver Grant → List engine.Grant
grants_in r = map grant_of r.received

abbrev pub grants_put : Sender Grant → List engine.Grant
grants_put r = map grant_of r.sent

-- the ring as the end that takes knows it: as if no more had been sent
abbrev pub known_of : Receiver Grant → Grants
known_of r = record { sent = grants_in r; received = length r.received; tails = r.tails; heads = [] }

-- the ring as the end that puts knows it: as if none had been received
abbrev pub shown_of : Sender Grant → Grants
shown_of r = record { sent = grants_put r; received = 0; tails = []; heads = r.heads }

-- the greatest edition of grants, 0 where there is none
abbrev pub newest : List engine.Grant → ℕ
newest [] = 0
newest (g ∷ gs) = max g.edition (newest gs)
