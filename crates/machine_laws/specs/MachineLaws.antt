-- What is said of the core machine: every event keeps what stands, and what stands is what a run promises.
use Rattle.std.specs.Prelude.{◌≡◌, ℕ, ◌+◌, ◌*◌, ◌<◌, ◌≤◌, ◌==◌, true, if◌then◌else◌, List, [], ◌∷◌, length, reverse, slice_get, Some}
use Rattle.session_model.specs.declared.session.Session.{Session}
use Rattle.engine_model.specs.Edits.{generation}
use Rattle.engine_model.specs.Order.{is_ordered}
use Rattle.engine_model.specs.Fits.{is_lawful}
use Rattle.engine_model.specs.Truth.{IsTruthful}
use Rattle.engine_model.specs.Due.{Ack, next_block}
use Rattle.machine_model.specs.Core.{TrackState, Core, at_first, acks_taken}
use Rattle.machine_model.specs.Events.{Event, step, after, most_sent}
use Rattle.machine_model.specs.Letters.{butler_begins}
use Rattle.machine_laws.specs.Stands.{Stands, each_once}

-- ---- every event keeps it

abbrev pub StandsAtFirst : Type 0
StandsAtFirst = (session : Session) (cycles : ℕ) → Stands session cycles (at_first session)

abbrev pub EveryEventKeepsIt : Type 0
EveryEventKeepsIt = (session : Session) (cycles : ℕ) (c : Core) (event : Event) → Stands session cycles c → Stands session cycles (step session cycles c event)

-- hence every list of events does
abbrev pub EveryListKeepsIt : Type 0
EveryListKeepsIt = (session : Session) (cycles : ℕ) (events : List Event) → Stands session cycles (after session cycles (at_first session) events)

-- ---- what it says

-- the journal is lawful
abbrev pub StandingIsLawful : Type 0
StandingIsLawful = (session : Session) (cycles : ℕ) (c : Core) → Stands session cycles c → is_lawful session c.edits (reverse c.entries) ≡ true

-- what was sent of each track is ordered
abbrev pub StandingIsOrdered : Type 0
StandingIsOrdered = (session : Session) (cycles : ℕ) (c : Core) (t : ℕ) (x : TrackState) → Stands session cycles c → slice_get c.tracks t ≡ Some x →
    is_ordered session c.edits t (reverse x.sent) ≡ true

-- each short, seek and lost block is true of the rings
abbrev pub StandingIsTruthful : Type 0
StandingIsTruthful = (session : Session) (cycles : ℕ) (c : Core) (t : ℕ) (x : TrackState) → Stands session cycles c → slice_get c.tracks t ≡ Some x →
    IsTruthful c.edits session.depth t (reverse x.sent) (reverse x.tails) (reverse x.heads) (reverse c.entries)

-- no ring of a track ever took as many items as one can: at most one piece of each block, generation and playlist edition is
-- sent, and one mark of each edition
abbrev pub FewAreEverSent : Type 0
FewAreEverSent = (session : Session) (cycles : ℕ) (c : Core) (t : ℕ) (x : TrackState) → Stands session cycles c → slice_get c.tracks t ≡ Some x →
    length x.sent ≤ (length c.edits + 1) * cycles * (length c.edits + 1) + (length c.edits + 1)

-- so that none is ever refused for want of numbers
abbrev pub NumbersSuffice : Type 0
NumbersSuffice = (session : Session) (cycles : ℕ) (c : Core) (t : ℕ) (x : TrackState) → cycles ≤ 100000 → Stands session cycles c → slice_get c.tracks t ≡ Some x →
    length x.sent < most_sent

-- no piece is sent twice
abbrev pub NoneIsSentTwice : Type 0
NoneIsSentTwice = (session : Session) (cycles : ℕ) (c : Core) (t : ℕ) (x : TrackState) → Stands session cycles c → slice_get c.tracks t ≡ Some x → each_once cycles x.sent ≡ true

-- ---- acknowledgements

-- the block that is next in a generation by the newest acknowledgement alone: the one that it names, or the first where it is of
-- another generation or there is none
abbrev pub newest_next : List Ack → ℕ → ℕ
newest_next [] g = 0
newest_next (ack ∷ acks) g = if ack.generation == g then ack.next else 0

-- a turn that enters before it takes its acknowledgements may go by the newest of them: the greatest says the same
abbrev pub TurnsGoByTheNewest : Type 0
TurnsGoByTheNewest = (session : Session) (cycles : ℕ) (c : Core) → Stands session cycles c → let d = after session cycles c (butler_begins c) in
    let g = generation d.edits d.entered in next_block (acks_taken d.to_butler) g ≡ newest_next (acks_taken d.to_butler) g
