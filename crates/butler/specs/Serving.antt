-- When a butler serves a session.
use Rattle.std.specs.Prelude.{◌≡◌, ℕ, ◌*◌, ◌≤◌, Bool, true, List, length, reverse, All, slice_get, Some}
use Rattle.ses_io.specs.Files.{Files, content}
use Rattle.sound_model.specs.Regions.{Sounds}
use Rattle.session_model.specs.declared.session.Session.{Session}
use Rattle.session_model.specs.declared.edit.Edit.{Edit}
use Rattle.session_model.specs.Valid.{IsValid}
use Rattle.session_model.specs.Formed.{channels_at}
use Rattle.engine_model.specs.Edits.{playlist_edition, generation}
use Rattle.engine_model.specs.Items.{Kind}
use Rattle.engine_model.specs.Due.{Ack, next_block}
use Rattle.engine_model.specs.Played.{samples_of, IsGenuine}
use Rattle.engine_laws.specs.Kept.{Kept, is_from}
use Rattle.engine_laws.specs.Tracked.{Tracked}
use Rattle.engine_laws.specs.Marks.{next_mark}
use Rattle.audio_source.specs.Opened.{OpenedSource, IsListed}
use Rattle.audio_source.specs.Told.{source_sound}
use Rattle.audio_source.specs.Lines.{HoldsAsRead}
use Rattle.disk_ring.specs.Sender.{Sender}
use Rattle.piece_item.specs.declared.item.Item.{Item}
use Rattle.piece_item.specs.declared.butler_ends.ButlerEnds.{ButlerEnds}
use Rattle.piece_item.specs.Views.{kind_of, item_of}
use Rattle.read_ahead.specs.declared.progress.SendProgress.{SendProgress}
use Rattle.read_ahead.specs.declared.supply.TrackSupply.{TrackSupply}
use Rattle.read_ahead.specs.Items.{kinds, HasMade}
use Rattle.read_ahead.specs.Serves.{HasSpare}
use Rattle.capture_flush.specs.Taking.{IsTakingOf}
use Rattle.capture_drain.specs.State.{DrainState, AreFitted}
use Rattle.butler.specs.Sends.{acks_of}
use Rattle.butler.specs.Table.{IsTable}
use Rattle.butler.specs.ButlerState.{ButlerState}

-- ---- one track

-- The numbers of track t stand for what was sent of it, the newest first, in the edition of these edits.
pub record StandsFor (s : Session) (edits : List Edit) (cycles t : ℕ) (acks : List Ack) (a : SendProgress) (before : List Kind) : Type 0 where
  -- what was sent is ordered, and from editions that were entered
  pub kept : Kept s edits t (length edits) before
  pub generation_is : a.generation ≡ generation edits (length edits)
  pub touched_is : a.touched ≡ playlist_edition s edits t (length edits)
  pub mark_is : a.mark ≡ next_mark before
  -- from this block on none below the farthest was left out
  pub base : ℕ
  pub tracked : Tracked a.generation a.touched base a.fresh a.far before
  -- and it is passed
  pub passed : base ≤ next_block acks a.generation
  -- no block was sent past the asked cycles
  pub near : a.far ≤ cycles

-- track t is tended: its ring is the session's, and closed exactly where nothing is sent any more
pub record IsTended (s : Session) (edits : List Edit) (cycles t : ℕ) (acks : List Ack) (hushed : Bool) (p : TrackSupply) (d : Sender Item) : Type 0 where
  pub depth : d.depth ≡ s.depth
  pub room : d.room ≡ s.block * channels_at s t
  pub closed : d.closed ≡ hushed
  pub stands : StandsFor s edits cycles t acks p.progress (reverse (kinds d.sent))
  -- what was made and found no room is from an edition that was entered
  pub made : (item : Item) → HasMade p item → is_from s edits t (length edits) (kind_of item.kind) ≡ true

-- ---- all of them

-- the boxes that the butler has fit the rings
pub record AreStocked (supplies : List TrackSupply) (drain : DrainState) (ends : ButlerEnds) : Type 0 where
  -- each track has a supply, with a box
  pub many : length supplies ≡ length ends.sends.items
  pub each : (t : ℕ) (p : TrackSupply) (d : Sender Item) → slice_get supplies t ≡ Some p → slice_get ends.sends.items t ≡ Some d → HasSpare p d
  -- and so has each capture ring
  pub takes : AreFitted drain ends.takes.items

-- It serves the session, and these are the edits that it entered last.
pub record IsServing {V : Type 0} (s : Session) (edits : List Edit) (b : ButlerState V) : Type 0 where
  pub valid : IsValid s
  pub entered : b.entered ≡ length edits
  -- the two rings of each track, and numbers of each
  pub sends : length b.ends.sends.items ≡ length s.tracks.items
  pub takes : length b.ends.takes.items ≡ length s.tracks.items
  pub supplies : length b.supplies ≡ length s.tracks.items
  pub sources : IsListed s.rate s.sources.items b.sources.opened
  pub room : b.room ≡ s.block
  pub some_cycle : 1 ≤ b.cycles
  pub cycles : b.cycles ≤ 100000
  -- an acknowledgement has no samples
  pub acks_room : b.ends.acks.room ≡ 0
  -- its table is that of the acknowledgements taken
  pub table : IsTable b.nexts (acks_of b.ends.acks.received)
  -- each track is tended
  pub tracks : (t : ℕ) (p : TrackSupply) (d : Sender Item) → slice_get b.supplies t ≡ Some p → slice_get b.ends.sends.items t ≡ Some d →
      IsTended s edits b.cycles t (acks_of b.ends.acks.received) b.hushed p d
  -- it writes the takes of the session
  pub taking : IsTakingOf s b.drain.files

-- ---- what is true of files

-- each item sent is genuine, for every track
abbrev pub AreGenuine : Sounds → Session → List Edit → List (Sender Item) → Type 0
AreGenuine sounds s edits sends = (t : ℕ) (d : Sender Item) → slice_get sends t ≡ Some d →
    All (λ item. IsGenuine s edits (samples_of sounds s edits) (item_of item)) d.sent

-- What the butler holds, has made and has sent is as these files have it.
pub record IsTrueTo {V : Type 0} (files : Files) (s : Session) (edits : List Edit) (b : ButlerState V) : Type 0 where
  -- each line of a source that is held
  pub lines : HoldsAsRead files b.sources
  -- each item that was sent
  pub sent : AreGenuine (source_sound files b.sources.opened) s edits b.ends.sends.items
  -- and each that was made and found no room
  pub made : (t : ℕ) (p : TrackSupply) (item : Item) → slice_get b.supplies t ≡ Some p → HasMade p item →
      IsGenuine s edits (samples_of (source_sound files b.sources.opened) s edits) (item_of item)

-- the files of the sources hold what they held
abbrev pub SourcesStand : Files → Files → List OpenedSource → Type 0
SourcesStand held files opened = (i : ℕ) (o : OpenedSource) → slice_get opened i ≡ Some o → content files o.file ≡ content held o.file
