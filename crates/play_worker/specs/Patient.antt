-- How often a process looks for the pieces of a cycle. Lists of rings and tails stand oldest first.
use Rattle.std.specs.Prelude.{◌≡◌, ◌⊎◌, ℕ, suc, ◌<◌, true, false, List, [], ◌∷◌, ◌++◌, length, slice_get, slice_index_or, Some}
use Rattle.std.specs.List.{list_any}
use Rattle.engine_model.specs.Items.{Kind}
use Rattle.engine_model.specs.Cycle.{is_held}
use Rattle.edition_log.specs.EditionState.{EditionState as Edition}
use Rattle.disk_ring.specs.Receiver.{Receiver, GoesOnOut}
use Rattle.piece_item.specs.declared.item.Item.{Item}
use Rattle.piece_item.specs.Views.{kind_of}
use Rattle.track_playback.specs.declared.playback.SpareBox.{SpareBox}
use Rattle.track_playback.specs.declared.playback.SpareBox.TheVariants.{Husk, Held, Lent}
use Rattle.track_playback.specs.declared.playback.TrackPlayback.{TrackPlayback}
use Rattle.track_playback.specs.declared.play_position.PlayPosition.{PlayPosition}
use Rattle.track_playback.specs.SpareBoxes.{received_kinds}
use Rattle.track_playback.specs.Looks.{holds}
use Rattle.track_playback.specs.Answers.{AllThere}
use Rattle.process_cycle.specs.ProcessState.{Playing, ProcessState, entries_of, position_of}
use Rattle.cycle_grants.specs.Patience.{IsWaitedFor}

-- ---- one track

-- so many looks found no more, and the last one of them all that was received
pub record NotedSoOften (looks : ℕ) (a b : Receiver Item) : Type 0 where
  pub before : List ℕ
  pub tails : b.tails ≡ a.tails ++ (before ++ length b.received ∷ [])
  pub many : suc (length before) ≡ looks

-- the last item received is held
pub record IsHeldLast (at : PlayPosition) (b : Receiver Item) : Type 0 where
  pub kind : Kind
  pub rest : List Kind
  pub last : received_kinds b ≡ kind ∷ rest
  pub is_held : is_held at.depth at.generation at.next kind ≡ true

-- ---- all tracks

-- **Each track was looked for so many times**, or holds an item past which nothing is taken.
abbrev pub AllLookedFor : ℕ → PlayPosition → List (Receiver Item) → List (Receiver Item) → Type 0
AllLookedFor looks at olds news = (t : ℕ) (a b : Receiver Item) → slice_get olds t ≡ Some a → slice_get news t ≡ Some b → NotedSoOften looks a b ⊎ IsHeldLast at b

-- what was received and noted stands
abbrev pub AllGoOn : List (Receiver Item) → List (Receiver Item) → Type 0
AllGoOn olds news = (t : ℕ) (a b : Receiver Item) → slice_get olds t ≡ Some a → slice_get news t ≡ Some b → GoesOnOut a b

-- What the looks of one cycle leave: the transport doesn't roll, or each track has its piece, or a ring is closed, or each was looked for with patience.
abbrev pub LooksPatiently : {I W : Type 0} → ℕ → Edition → ProcessState I W → ProcessState I W → Type 0
LooksPatiently patience e old new = e.transport.rolling ≡ true →
    AllThere (position_of new) new.ends.plays.items ⊎ ((list_any (λ r. r.ended) new.ends.plays.items ≡ true) ⊎ AllLookedFor patience (position_of new) old.ends.plays.items new.ends.plays.items)

-- ---- all cycles

-- no ring of pieces was answered Closed
abbrev pub AllOpen : List (Receiver Item) → Type 0
AllOpen plays = (t : ℕ) (r : Receiver Item) → slice_get plays t ≡ Some r → r.ended ≡ false

-- **Each piece that wasn't there was looked for with patience**, unless a ring was closed.
abbrev pub IsPatient : {I W : Type 0} → ℕ → Playing → ProcessState I W → Type 0
IsPatient patience at p = AllOpen p.ends.plays.items → (t : ℕ) (r : Receiver Item) → slice_get p.ends.plays.items t ≡ Some r →
    IsWaitedFor patience at.edits at.session.depth t (received_kinds r) r.tails (entries_of p)

-- ---- between two looks

-- how the last of so many looks of a track ended, by its spare box
abbrev pub EndsAfter : ℕ → PlayPosition → Receiver Item → Receiver Item → SpareBox → Type 0
EndsAfter looks at a b (Husk box) = NotedSoOften looks a b
EndsAfter looks at a b (Held box) = holds at (kind_of box.value.kind) ≡ true
EndsAfter looks at a b Lent = ⊥

abbrev pub AllEndAfter : {I W : Type 0} → ℕ → ProcessState I W → ProcessState I W → Type 0
AllEndAfter looks old new = (t : ℕ) (x : Receiver Item) (y : TrackPlayback) → t < length old.ends.plays.items →
    EndsAfter looks (position_of new) (slice_index_or old.ends.plays.items t x) (slice_index_or new.ends.plays.items t x) (slice_index_or new.playbacks t y).spare
