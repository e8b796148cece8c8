-- What a ring of acknowledgements was told of: each entry in order, but for those that found it full.
use Rattle.std.specs.Prelude.{◌≡◌, ◌⊎◌, ℕ, ◌+◌, ◌-◌, ◌<◌, List, [], ◌∷◌, length, map, reverse, slice_get, Some}
use Rattle.session_model.specs.declared.edit.Edit.{Edit}
use Rattle.engine_model.specs.Journal.{Entry}
use Rattle.engine_model.specs.Due.{Ack}
use Rattle.machine_model.specs.Events.{ack_of}
use Rattle.disk_ring.specs.Sender.{Sender}
use Rattle.piece_item.specs.declared.ack.Ack as boxed
use Rattle.piece_item.specs.Views as views

-- the newest entry's acknowledgement was put; `Before` says of what was put before
pub record WasPut (edits : List Edit) (e : Entry) (before : List Entry) (acks : List Ack) (Before : List Ack → Type 0) : Type 0 where
  pub ack : Ack
  pub earlier : List Ack
  pub newest : acks ≡ ack ∷ earlier
  pub is : ack_of edits (e ∷ before) ≡ Some ack
  pub told : Before earlier

-- it found the ring full by a head that was noted
pub record FoundNoRoom (depth : ℕ) (acks : List Ack) (heads : List ℕ) (Before : List ℕ → Type 0) : Type 0 where
  pub head : ℕ
  pub earlier : List ℕ
  pub newest : heads ≡ head ∷ earlier
  pub full : length acks ≡ head + depth
  pub told : Before earlier

-- Each entry's acknowledgement was put in its turn, or found the ring full, and nothing else was done to it. Entries, acknowledgements
-- and heads stand newest first.
abbrev pub AreTold : List Edit → ℕ → List Entry → List Ack → List ℕ → Type 0
AreTold edits depth [] acks heads = (acks ≡ []) × (heads ≡ [])
AreTold edits depth (e ∷ before) acks heads = WasPut edits e before acks (λ earlier. AreTold edits depth before earlier heads)
    ⊎ FoundNoRoom depth acks heads (λ earlier. AreTold edits depth before acks earlier)

-- An acknowledgement names its entry of a journal, from 1, and what that has settled.
pub record IsSettledBy (journal : List Entry) (a : Ack) : Type 0 where
  pub some : 0 < a.cycle
  pub entry : Entry
  pub there : slice_get journal (a.cycle - 1) ≡ Some entry
  pub settled : a.settled ≡ entry.settled

-- the ring whose end that puts this is
abbrev pub IsToldOf : List Edit → ℕ → List Entry → Sender boxed.Ack → Type 0
IsToldOf edits depth entries d = AreTold edits depth entries (reverse (map views.ack_of d.sent)) (reverse d.heads)
