-- What serving all tracks does, and what entering an edition does to them.
use Rattle.std.specs.Prelude.{◌≡◌, ℕ, ◌+◌, ◌<◌, ◌≤◌, true, false, List, length, slice_get, slice_index_or, sum_by, Some, IsSomeAnd, Result, Ok, Err}
use Rattle.sound_model.specs.Regions.{Sounds}
use Rattle.edition_log.specs.EditionState.{EditionState as Edition}
use Rattle.audio_source.specs.declared.refusal.ReadFault.{ReadFault}
use Rattle.disk_ring.specs.Sender.{Sender}
use Rattle.piece_item.specs.declared.item.Item.{Item}
use Rattle.read_ahead.specs.declared.supply.TrackSupply.{TrackSupply}
use Rattle.read_ahead.specs.Pass.{PassState}
use Rattle.read_ahead.specs.SendProgress.{needs_of, target_of, entered}
use Rattle.read_ahead.specs.Items.{block_room}
use Rattle.read_ahead.specs.Serves.{Serves, HasSpare, IsStocked, IsServed, IsAtHand}

-- each track can be served, and its ring isn't closed
pub record AllStocked (e : Edition) (supplies : List TrackSupply) (sends : List (Sender Item)) : Type 0 where
  pub many : length supplies ≡ length sends
  pub each : (t : ℕ) (p : TrackSupply) (d : Sender Item) → slice_get supplies t ≡ Some p → slice_get sends t ≡ Some d →
      IsStocked (block_room e t) p d × (d.closed ≡ false)

-- each was served
pub record AllServe (told : Type 0) (sounds : Sounds) (pass : PassState) (ps : List TrackSupply) (ds : List (Sender Item))
    (qs : List TrackSupply) (fs : List (Sender Item)) : Type 0 where
  pub supplies : length qs ≡ length ps
  pub sends : length fs ≡ length ds
  pub each : (t : ℕ) (p q : TrackSupply) (d f : Sender Item) → slice_get ps t ≡ Some p → slice_get qs t ≡ Some q →
      slice_get ds t ≡ Some d → slice_get fs t ≡ Some f →
      Serves told sounds pass.edition (needs_of (target_of pass t)) p d q f × HasSpare q f

-- how many items were sent, over all tracks
abbrev pub total_sent : List (Sender Item) → ℕ
total_sent sends = sum_by (λ d. length d.sent) sends

-- what they were given of so many items
pub record HaveServed (pass : PassState) (most : ℕ) (ds : List (Sender Item)) (qs : List TrackSupply) (fs : List (Sender Item))
    (sent : ℕ) : Type 0 where
  pub counted : total_sent fs ≡ total_sent ds + sent
  pub few : sent ≤ most
  pub done : sent < most → (t : ℕ) (q : TrackSupply) (d f : Sender Item) → slice_get qs t ≡ Some q → slice_get ds t ≡ Some d →
      slice_get fs t ≡ Some f → IsServed (needs_of (target_of pass t)) d q f
  pub in_order : (u t : ℕ) (q : TrackSupply) (c b d f : Sender Item) → u < t → slice_get qs u ≡ Some q → slice_get ds u ≡ Some c → slice_get fs u ≡ Some b →
      slice_get ds t ≡ Some d → slice_get fs t ≡ Some f → length d.sent < length f.sent → IsServed (needs_of (target_of pass u)) c q b

-- a read failed before so many items were sent, and nothing was sent of a track before all those before it had all
pub record HasStopped (pass : PassState) (most : ℕ) (ds : List (Sender Item)) (qs : List TrackSupply) (fs : List (Sender Item)) : Type 0 where
  pub fewer : total_sent fs < total_sent ds + most
  pub in_order : (u t : ℕ) (q : TrackSupply) (c b d f : Sender Item) → u < t → slice_get qs u ≡ Some q → slice_get ds u ≡ Some c → slice_get fs u ≡ Some b →
      slice_get ds t ≡ Some d → slice_get fs t ≡ Some f → length d.sent < length f.sent → IsServed (needs_of (target_of pass u)) c q b

-- each ring was closed, and nothing else changed
pub record AreShut (ds fs : List (Sender Item)) : Type 0 where
  pub sends : length fs ≡ length ds
  pub each : (t : ℕ) (d f : Sender Item) → slice_get ds t ≡ Some d → slice_get fs t ≡ Some f → f ≡ record d { closed = true }

-- a read failed, and every ring was closed
pub record HasFailed (told : Type 0) (sounds : Sounds) (pass : PassState) (most : ℕ) (ps : List TrackSupply) (ds : List (Sender Item))
    (qs : List TrackSupply) (fs : List (Sender Item)) : Type 0 where
  pub between : List (Sender Item)
  pub serves : AllServe told sounds pass ps ds qs between
  pub stopped : HasStopped pass most ds qs between
  pub shut : AreShut between fs

-- the tracks were served and so many items sent, or a read failed
abbrev pub Goes : Type 0 → Sounds → PassState → ℕ → List TrackSupply → List (Sender Item) → Result ℕ ReadFault → List TrackSupply → List (Sender Item) → Type 0
Goes told sounds pass most ps ds (Ok n) qs fs = AllServe told sounds pass ps ds qs fs × HaveServed pass most ds qs fs n
Goes told sounds pass most ps ds (Err e) qs fs = HasFailed told sounds pass most ps ds qs fs

-- nothing has to be read for what is due of each track
abbrev pub AllAtHand : PassState → List TrackSupply → Type 0
AllAtHand pass supplies = (t : ℕ) (p : TrackSupply) → slice_get supplies t ≡ Some p → IsAtHand (needs_of (target_of pass t)) p

-- each track entered the edition, and keeps its box
pub record AreEntered (e : Edition) (ps qs : List TrackSupply) : Type 0 where
  pub supplies : length qs ≡ length ps
  pub each : (t : ℕ) (p q : TrackSupply) → slice_get ps t ≡ Some p → slice_get qs t ≡ Some q →
      q ≡ record p { progress = entered e.transport.generation (slice_index_or e.touched t 0) p.progress }

-- of each track nothing was sent, and there is a box of one block
pub record AreFirst (e : Edition) (supplies : List TrackSupply) : Type 0 where
  pub many : length supplies ≡ length e.session.tracks.items
  pub each : (t : ℕ) (p : TrackSupply) → slice_get supplies t ≡ Some p →
      (p.progress ≡ record { generation = e.transport.generation; touched = slice_index_or e.touched t 0; fresh = 0; far = 0; mark = 0 })
      × IsSomeAnd p.spare (λ b. length b.value.samples.items ≡ block_room e t) × (p.made ≡ false)
