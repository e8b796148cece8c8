-- What stands in every state of the core machine. Lists stand newest first, but for the edits.
use Rattle.std.specs.Prelude.{◌≡◌, ◌⊎◌, ℕ, ◌+◌, ◌<◌, ◌≤◌, Bool, true, false, ◌&&◌, not, ◌==◌, nat_lt, List, [], ◌∷◌, ◌++◌, length, map, reverse, Option, Some, None}
use Rattle.std.specs.List.{list_all, list_any}
use Rattle.session_model.specs.declared.session.Session.{Session}
use Rattle.session_model.specs.declared.edit.Edit.{Edit}
use Rattle.session_model.specs.Lists.{EachAt}
use Rattle.engine_model.specs.Edits.{has_quit}
use Rattle.engine_model.specs.Editions.{IsAccepted}
use Rattle.engine_model.specs.Items.{Kind, Piece, Settled, Blank}
use Rattle.engine_model.specs.Journal.{Take, Off, Taken, Lost, Entry, note_of}
use Rattle.engine_model.specs.Fits.{next_take}
use Rattle.engine_model.specs.Due.{Ack}
use Rattle.engine_model.specs.Truth.{losses}
use Rattle.engine_model.specs.Made.{AreMade}
use Rattle.engine_laws.specs.Kept.{Kept}
use Rattle.engine_laws.specs.MadeLaws.{LooksStand}
use Rattle.machine_model.specs.Core.{Captured, TrackState, AckRing, Core, received_of}
use Rattle.machine_model.specs.Events.{is_recorded, ack_of}

-- ---- what was sent of a track

abbrev pub is_piece : ℕ → ℕ → ℕ → Kind → Bool
is_piece g s p (Piece u h r q) = h == g && r == s && q == p
is_piece g s p (Settled k h r) = false
is_piece g s p Blank = false

-- no piece of a block, in one playlist edition, was sent twice, none of a block past the cycles that were asked, and no empty box
abbrev pub each_once : ℕ → List Kind → Bool
each_once cycles [] = true
each_once cycles (Piece u g s p ∷ xs) = nat_lt s cycles && not (list_any (is_piece g s p) xs) && each_once cycles xs
each_once cycles (Settled k g s ∷ xs) = each_once cycles xs
each_once cycles (Blank ∷ xs) = false

-- The playback ring of track t, whose butler entered an edition.
pub record PlaybackStands (session : Session) (edits : List Edit) (cycles entered t : ℕ) (x : TrackState) : Type 0 where
  -- what was sent keeps the order, and is from editions that the butler entered
  pub kept : Kept session edits t entered x.sent
  pub once : each_once cycles x.sent ≡ true
  -- what was received was sent, and no more than the ring's depth lies between
  pub received : x.received ≤ length x.sent
  pub room : length x.sent ≤ x.received + session.depth

-- ---- what was captured of a track

-- the blocks that the entries took of track t, and the numbers flushed at those that they lost
abbrev pub block_of_take : Take → List Captured
block_of_take Off = []
block_of_take (Taken n i) = record { take = n; index = i } ∷ []
block_of_take (Lost n i head) = []

abbrev pub head_of_take : Take → List ℕ
head_of_take Off = []
head_of_take (Taken n i) = []
head_of_take (Lost n i head) = head ∷ []

abbrev pub blocks_taken : ℕ → List Entry → List Captured
blocks_taken t [] = []
blocks_taken t (e ∷ es) = block_of_take (note_of t e).take ++ blocks_taken t es

abbrev pub heads_lost : ℕ → List Entry → List ℕ
heads_lost t [] = []
heads_lost t (e ∷ es) = head_of_take (note_of t e).take ++ heads_lost t es

-- what is pending in an open cycle
abbrev pub pending : {X : Type 0} → (Take → List X) → Option Take → List X
pending of None = []
pending of (Some take) = of take

abbrev pub is_next_take : ℕ × ℕ → Take → Bool
is_next_take next Off = false
is_next_take next (Taken n i) = n == next.0 && i == next.1
is_next_take next (Lost n i head) = n == next.0 && i == next.1

-- a block that is lost met a full ring: just so many were taken as had been flushed and the ring holds
abbrev pub met_full : ℕ → ℕ → Option Take → Bool
met_full depth taken None = true
met_full depth taken (Some Off) = true
met_full depth taken (Some (Taken n i)) = true
met_full depth taken (Some (Lost n i head)) = taken == head + depth

-- The capture ring of track t.
pub record CaptureStands (session : Session) (c : Core) (t : ℕ) (x : TrackState) : Type 0 where
  -- it holds exactly the blocks that the entries took, and the pending one
  pub put : x.put ≡ pending block_of_take x.taking ++ blocks_taken t c.entries
  -- the ring was found full exactly at the blocks that they lost, and the pending one
  pub heads : x.heads ≡ pending head_of_take x.taking ++ heads_lost t c.entries
  pub flushed : x.flushed ≤ length x.put
  pub room : length x.put ≤ x.flushed + session.depth
  pub full : list_all (λ l. l.taken == l.head + session.depth) (losses t (reverse c.entries)) ≡ true
  pub full_now : met_full session.depth (length (blocks_taken t c.entries)) x.taking ≡ true
  -- what is pending is the next block of its take, of a cycle that is open and records the track
  pub next : (take : Take) → x.taking ≡ Some take → (c.in_cycle ≡ true) × (is_recorded session c t ≡ true) × (is_next_take (next_take t c.entries) take ≡ true)

-- ---- looks

-- Where the last look of a cycle found nothing, it noted the number received, and the journal is true by the looks before it.
pub record TrackLooked (session : Session) (c : Core) (t : ℕ) (x : TrackState) : Type 0 where
  pub true_now : LooksStand c.edits session.depth t (received_of x) x.tails c.entries
  pub noted : x.ended ≡ true → (before : List ℕ) × (x.tails ≡ x.received ∷ before) × LooksStand c.edits session.depth t (received_of x) before c.entries

-- ---- acknowledgements

-- the acknowledgements of entries, the newest first; some may be left out
abbrev pub AreAcksOf : List Edit → List Entry → List Ack → Type 0
AreAcksOf edits entries [] = Unit {0}
AreAcksOf edits [] (ack ∷ acks) = ⊥
AreAcksOf edits (e ∷ before) (ack ∷ acks) = ((ack_of edits (e ∷ before) ≡ Some ack) × AreAcksOf edits before acks) ⊎ AreAcksOf edits before (ack ∷ acks)

pub record AcksStand (session : Session) (c : Core) (ring : AckRing) : Type 0 where
  pub of_entries : AreAcksOf c.edits c.entries ring.sent
  pub taken : ring.taken ≤ length ring.sent
  pub room : length ring.sent ≤ ring.taken + session.depth
  -- the newest is of an entry that had been made when the ring was last sent to
  pub told : ring.told ≤ length c.entries
  pub none_newer : list_all (λ a. not (nat_lt ring.told a.cycle)) ring.sent ≡ true

-- ---- the whole

pub record Stands (session : Session) (cycles : ℕ) (c : Core) : Type 0 where
  pub accepted : IsAccepted session c.edits
  pub entered : c.entered ≤ length c.edits
  pub playing : c.playing ≤ length c.edits
  -- no cycle is open in an edition that has quit, nor past those that were asked
  pub unended : c.in_cycle ≡ true → has_quit c.edits c.playing ≡ false
  pub asked : length c.entries ≤ cycles
  pub asked_now : c.in_cycle ≡ true → length c.entries < cycles
  pub many : length c.tracks ≡ length session.tracks.items
  pub playback : EachAt (PlaybackStands session c.edits cycles c.entered) c.tracks
  pub made : AreMade session c.edits c.playing (map received_of c.tracks) c.entries
  pub looks : EachAt (TrackLooked session c) c.tracks
  pub captures : EachAt (CaptureStands session c) c.tracks
  pub to_butler : AcksStand session c c.to_butler
  pub to_control : AcksStand session c c.to_control
