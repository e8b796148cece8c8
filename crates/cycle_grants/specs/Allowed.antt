-- What a process keeps of its allowances while it makes entries: laws over plain lists. Entries and grants stand oldest first.
use Rattle.std.specs.Prelude.{◌≡◌, ◌⊎◌, ℕ, ◌<◌, ◌≤◌, true, false, List, [], ◌∷◌, ◌++◌, length, take}
use mathlib.Core.List.{IsPrefix}
use Rattle.engine_model.specs.Journal.{Entry}
use Rattle.engine_model.specs.Waited.{Grant, allowed, are_allowed_from, are_allowed, times}
use Rattle.disk_ring.specs.Receiver.{Receiver}
use Rattle.run_world.specs.declared.finished.Grant as ring
use Rattle.cycle_grants.specs.Grants.{grants_in, known_of, newest}
use Rattle.cycle_grants.specs.Allowance.{AllowanceState, Awaits}

-- patience was lost at so many grants: of the entries past what these allow nothing is said
pub record LostPatience (patience most made : ℕ) (r : Receiver ring.Grant) : Type 0 where
  pub at : ℕ
  pub few : at ≤ length r.received
  pub tries : patience ≤ times at r.tails
  pub bound : most ≡ allowed (take at (grants_in r))
  pub past : most ≤ made

-- **The entries so far are each allowed by a grant that was received, and no older than it**, up to one bound: all of them while the process waits.
pub record KeepsAllowances (patience : ℕ) (entries : List Entry) (a : AllowanceState) : Type 0 where
  pub most : ℕ
  pub kept : are_allowed_from (known_of a.from) most 1 entries ≡ true
  pub all : a.waits ≡ true → length entries ≤ most
  pub lost : a.waits ≡ false → LostPatience patience most (length entries) a.from

-- one more cycle is allowed, or none is waited for any more
abbrev pub MayMake : ℕ → AllowanceState → Type 0
MayMake made a = (a.waits ≡ false) ⊎ (made < allowed (grants_in a.from))

-- so it is before the first entry,
abbrev pub NoEntryIsAllowedYet : Type 0
NoEntryIsAllowedYet = (patience : ℕ) (a : AllowanceState) → a.waits ≡ true → KeepsAllowances patience [] a

-- after each call that waits for an allowance, which leaves the process free to make its cycle,
abbrev pub AwaitingKeepsAllowances : Type 0
AwaitingKeepsAllowances = (patience : ℕ) (entries : List Entry) (a b : AllowanceState) → KeepsAllowances patience entries a → Awaits patience (length entries) a b →
    KeepsAllowances patience entries b × MayMake (length entries) b

-- and after an entry in an edition no older than that of any grant.
abbrev pub AnEntryFollows : Type 0
AnEntryFollows = (patience : ℕ) (entries : List Entry) (e : Entry) (a : AllowanceState) → KeepsAllowances patience entries a → MayMake (length entries) a → newest (grants_in a.from) ≤ e.edition →
    KeepsAllowances patience (entries ++ e ∷ []) a

-- A journal so made keeps the allowances, whatever was sent behind the grants that were received.
abbrev pub AllowancesAreKept : Type 0
AllowancesAreKept = (patience cycles : ℕ) (entries : List Entry) (a : AllowanceState) (sent : List Grant) (heads : List ℕ) → KeepsAllowances patience entries a → IsPrefix (grants_in a.from) sent →
    are_allowed patience cycles (record { sent = sent; received = length a.from.received; tails = a.from.tails; heads = heads }) entries ≡ true
