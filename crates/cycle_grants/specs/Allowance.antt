-- What contracts see of the end that takes grants, and what its calls do.
use Rattle.std.specs.Prelude.{◌≡◌, ℕ, suc, ◌<◌, ◌≤◌, ◌^◌, Bool, true, false, ◌&&◌, nat_lt, List, [], ◌∷◌, ◌++◌, length, take, min, replicate, Some}
use mathlib.Core.List.{IsPrefix}
use Rattle.engine_model.specs.Waited.{allowed, times, last_of}
use Rattle.disk_ring.specs.Receiver.{Receiver, GoesOnOut}
use Rattle.run_world.specs.declared.finished.Grant.{Grant}
use Rattle.cycle_grants.specs.Grants.{grants_in, newest}

pub record AllowanceState : Type 0 where
  pub from : Receiver Grant
  -- whether it still waits for grants
  pub waits : Bool

-- what is kept of grants: how many cycles they allow, counted up to 200,000, and their newest edition
pub record Counts (r : Receiver Grant) (cycles floor : ℕ) : Type 0 where
  pub room : r.room ≡ 0
  pub sum : cycles ≡ min (allowed (grants_in r)) 200000
  pub floor_is : floor ≡ newest (grants_in r)

-- ---- the steps

-- one grant was taken
pub record TakesOne (a b : AllowanceState) : Type 0 where
  pub ring : GoesOnOut a.from b.from
  pub grant : Grant
  pub same : b ≡ record a { from = record a.from { received = a.from.received ++ grant ∷ [] } }
  -- a ring takes no more than this
  pub small : length a.from.received < 2 ^ 62

-- none was there
pub record TakesNone (a b : AllowanceState) : Type 0 where
  pub ring : GoesOnOut a.from b.from
  pub same : b ≡ record a { from = b.from }
  pub received : b.from.received ≡ a.from.received
  pub tails : b.from.tails ≡ a.from.tails ++ length a.from.received ∷ []
  -- all that it had been told of was received
  pub told : IsPrefix a.from.heard b.from.received

-- all that were there were taken
pub record TakesAll (a b : AllowanceState) : Type 0 where
  pub ring : GoesOnOut a.from b.from
  pub waits : b.waits ≡ a.waits
  pub tails : b.from.tails ≡ a.from.tails ++ length b.from.received ∷ []
  pub told : IsPrefix a.from.heard b.from.received

-- one more was taken, after fewer tries that found none
pub record FindsInTime (most : ℕ) (a b : AllowanceState) : Type 0 where
  pub ring : GoesOnOut a.from b.from
  pub waits : b.waits ≡ a.waits
  pub grant : Grant
  pub received : b.from.received ≡ a.from.received ++ grant ∷ []
  pub tries : ℕ
  pub few : tries < most
  pub tails : b.from.tails ≡ a.from.tails ++ replicate tries (length a.from.received)
  pub small : length a.from.received < 2 ^ 62

-- so many tries found none
pub record TriesInVain (tries : ℕ) (a b : AllowanceState) : Type 0 where
  pub ring : GoesOnOut a.from b.from
  pub same : b ≡ record a { from = b.from }
  pub received : b.from.received ≡ a.from.received
  pub tails : b.from.tails ≡ a.from.tails ++ replicate tries (length a.from.received)

-- ---- all of a call

-- **One call of the process where so many cycles were made.** It takes grants until there is none, tries again where no further cycle is allowed, and
-- where its tries run out it never waits again.
pub record Awaits (patience made : ℕ) (a b : AllowanceState) : Type 0 where
  pub ring : GoesOnOut a.from b.from
  -- the looks that found none, of which the last one is the end of it: all grants that were there were taken, and all that it had been told of
  pub looks : List ℕ
  pub noted : b.from.tails ≡ a.from.tails ++ looks
  pub last : last_of looks ≡ Some (length b.from.received)
  pub told : IsPrefix a.from.heard b.from.received
  -- it tries again only where it waits and no further cycle is allowed, and only so many times for one more grant
  pub again : (n : ℕ) → 1 < times n looks → (a.waits ≡ true) × (allowed (take n (grants_in b.from)) ≤ made)
  pub few : (n : ℕ) → times n looks ≤ suc patience
  -- it waits for others later on exactly where it did and a further cycle is allowed; where it waits no longer all its tries were made
  pub waits : b.waits ≡ (a.waits && nat_lt made (allowed (grants_in b.from)))
  pub lost : a.waits ≡ true → b.waits ≡ false → times (length b.from.received) looks ≡ suc patience
