-- What control hears of its ring of acknowledgements, and which replies are true of that.
use Rattle.std.specs.Prelude.{◌≡◌, ℕ, ◌<◌, ◌≤◌, ◌-◌, ◌^◌, Bool, true, ◌&&◌, ◌==◌, nat_le, nat_lt, All, List, [], ◌∷◌, ◌++◌, length, map, reverse, Option, Some, None, slice_get}
use Rattle.std.specs.List.{list_all, list_any}
use mathlib.Core.List.{IsPrefix}
use Rattle.engine_model.specs.Due.{Ack}
use Rattle.engine_model.specs.Journal.{Entry}
use Rattle.engine_model.specs.Replies.{Reply, Accepted, Refused, LineRefused, Done, Synced, NotSynced, is_acknowledged}
use Rattle.disk_ring.specs.Receiver.{Receiver, GoesOnOut}
use Rattle.piece_item.specs.declared.ack.Ack as ring
use Rattle.piece_item.specs.Views.{ack_of}

-- those that were taken
abbrev pub acks_in : Receiver ring.Ack → List Ack
acks_in r = map ack_of r.received

-- **The best of them**: none before it has settled more, and none after it as much.
pub record IsBest (acks : List ring.Ack) (best : ring.Ack) : Type 0 where
  pub before : List ring.Ack
  pub after : List ring.Ack
  pub stands : acks ≡ before ++ best ∷ after
  pub most : All (λ a. a.settled ≤ best.settled) before
  pub newest : All (λ a. a.settled < best.settled) after

abbrev pub HasBest : List ring.Ack → Option ring.Ack → Type 0
HasBest acks None = acks ≡ []
HasBest acks (Some best) = IsBest acks best

-- All that were there were taken, until a look found none.
pub record Hears (old new : Receiver ring.Ack) : Type 0 where
  pub goes_on : GoesOnOut old new
  pub tails : new.tails ≡ old.tails ++ length new.received ∷ []
  -- and all that it had been told of was taken
  pub told : IsPrefix old.heard new.received

-- one was taken
pub record HearsOne (old new : Receiver ring.Ack) : Type 0 where
  pub goes_on : GoesOnOut old new
  pub ack : ring.Ack
  pub same : new ≡ record old { received = old.received ++ ack ∷ [] }
  -- a ring takes no more than this
  pub small : length old.received < 2 ^ 62

-- none was there, and none comes any more, or may
pub record HearsNone (old : Receiver ring.Ack) (closed : Bool) (new : Receiver ring.Ack) : Type 0 where
  pub goes_on : GoesOnOut old new
  pub received : new.received ≡ old.received
  pub tails : new.tails ≡ old.tails ++ length old.received ∷ []
  pub told : IsPrefix old.heard new.received
  pub closed_is : closed ≡ new.ended

-- one of them has so much settled
abbrev pub has_settled : ℕ → List ring.Ack → Bool
has_settled k acks = list_any (λ a. nat_le k a.settled) acks

-- A reply is true of the acknowledgements that were taken of a ring that has answered Closed or not: the entry that is named as synced was
-- acknowledged with the edition settled; where none is, none was, and none comes any more.
abbrev pub is_heard : List Ack → Bool → Reply → Bool
is_heard acks ended (Accepted k) = true
is_heard acks ended (Refused why) = true
is_heard acks ended (LineRefused why) = true
is_heard acks ended Done = true
is_heard acks ended (Synced k entry) = list_any (λ a. a.cycle == entry && nat_le k a.settled) acks
is_heard acks ended (NotSynced k) = ended && list_all (λ a. nat_lt a.settled k) acks

-- ---- laws

-- an acknowledgement says what its entry has settled
abbrev pub IsOfItsEntry : List Entry → Ack → Type 0
IsOfItsEntry journal a = (0 < a.cycle) × ((e : Entry) × (slice_get journal (a.cycle - 1) ≡ Some e) × (a.settled ≡ e.settled))

-- **What was true of those that were taken is true of all that were sent, and of the journal.**
abbrev pub HeardIsTrue : Type 0
HeardIsTrue = (journal : List Entry) (sent received : List Ack) (ended : Bool) (replies : List Reply) → All (IsOfItsEntry journal) sent → IsPrefix received sent → (ended ≡ true → received ≡ sent) →
    list_all (is_heard received ended) replies ≡ true → list_all (is_acknowledged (reverse sent) journal) replies ≡ true
