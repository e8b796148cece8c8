-- What one look does to a track: items are taken and offered to the window until the ring has no more, or one is held.
use Rattle.std.specs.Prelude.{◌≡◌, Bool, true, not, List, [], ◌∷◌, ◌++◌, length, map, ⊤}
use Rattle.std.specs.List.{list_all}
use mathlib.Core.List.{IsPrefix}
use Rattle.engine_model.specs.Items as engine
use Rattle.engine_model.specs.Cycle.{is_held}
use Rattle.piece_item.specs.declared.item.Item.{Item}
use Rattle.piece_item.specs.Views.{kind_of}
use Rattle.disk_ring.specs.Receiver.{Receiver, GoesOnOut}
use Rattle.play_window.specs.Offers.{Offered}
use Rattle.play_window.specs.WindowState.{WindowState, IsWindowOf, IsNoEarlier}
use Rattle.track_playback.specs.declared.playback.SpareBox.{SpareBox}
use Rattle.track_playback.specs.declared.playback.SpareBox.TheVariants.{Husk, Held, Lent}
use Rattle.track_playback.specs.declared.playback.TrackPlayback.{TrackPlayback}
use Rattle.track_playback.specs.declared.play_position.PlayPosition.{PlayPosition}
use Rattle.track_playback.specs.SpareBoxes.{held, HasRoom, received_items, offers, HoldsTheLast}

-- the process holds an item of this kind there
abbrev pub holds : PlayPosition → engine.Kind → Bool
holds at k = is_held at.depth at.generation at.next k

abbrev pub holds_none : PlayPosition → List engine.Item → Bool
holds_none at items = list_all (λ x. not (holds at x.kind)) items

-- these items, as they are offered there
abbrev pub offered : PlayPosition → List engine.Item → List Offered
offered at items = map (λ x. record { generation = at.generation; next = at.next; item = x }) items

-- how a look ends that finds the ring so and leaves it so: at a held item, and no tail was loaded; or where all was received,
-- and the tail of that load is noted
abbrev pub EndsWith : PlayPosition → Receiver Item → Receiver Item → SpareBox → Type 0
EndsWith at a b (Husk box) = b.tails ≡ a.tails ++ length b.received ∷ []
EndsWith at a b (Held box) = (holds at (kind_of box.value.kind) ≡ true) × (b.tails ≡ a.tails)
EndsWith at a b Lent = ⊥

-- where the look ended at the ring's end, all that the end was told of was received
abbrev pub HasAllTold : Receiver Item → Receiver Item → SpareBox → Type 0
HasAllTold a b (Husk box) = IsPrefix a.heard b.received
HasAllTold a b (Held box) = ⊤
HasAllTold a b Lent = ⊤

-- what was taken of a ring was offered to a window, but for an item that is held
pub record Offers (at : PlayPosition) (a : Receiver Item) (v : WindowState) (b : Receiver Item) (w : WindowState) (spare : SpareBox) : Type 0 where
  -- what was offered
  pub taken : List engine.Item
  pub received : received_items b ≡ held spare ++ (taken ++ received_items a)
  -- none of it is held
  pub free : holds_none at taken ≡ true
  -- and of whatever offers it was the window, now it is that of these too
  pub window : (os : List Offered) → IsWindowOf os v → IsWindowOf (offered at taken ++ os) w
  -- the window stays as large
  pub depth : w.depth ≡ v.depth
  pub samples : w.samples ≡ v.samples
  -- no offer was for more than this
  pub until : IsNoEarlier w.generation w.next at.generation at.next
  -- what no call of a ring changes
  pub ring : GoesOnOut a b

-- one look of a track
pub record Looks (at : PlayPosition) (a : Receiver Item) (d : TrackPlayback) (b : Receiver Item) (e : TrackPlayback) : Type 0 where
  -- what was offered, newest first
  pub taken : List engine.Item
  pub offers : offers b e.spare ≡ taken ++ offers a d.spare
  -- none of it is held
  pub free : holds_none at taken ≡ true
  -- of whatever offers the window was, now it is that of these too
  pub window : (os : List Offered) → IsWindowOf os d.window → IsWindowOf (offered at taken ++ os) e.window
  -- it stays as large
  pub depth : e.window.depth ≡ d.window.depth
  pub samples : e.window.samples ≡ d.window.samples
  -- no offer was for more than this
  pub until : IsNoEarlier e.window.generation e.window.next at.generation at.next
  -- what no call of a ring changes
  pub ring : GoesOnOut a b
  -- a held item is the last one received
  pub last : HoldsTheLast b e.spare
  -- boxes keep their room
  pub room : HasRoom d.window.samples e.spare
  -- the tail that is kept is the number received
  pub tail : e.tail ≡ length b.received
  -- it knows whether the ring has answered Closed
  pub closed : e.closed ≡ b.ended
  pub ends : EndsWith at a b e.spare
  pub told : HasAllTold a b e.spare
