-- What a butler may begin with, and what it has then.
use Rattle.std.specs.Prelude.{◌≡◌, ℕ, ◌*◌, ◌≤◌, false, List, [], length, slice_get, Some}
use Rattle.session_model.specs.declared.session.Session.{Session}
use Rattle.session_model.specs.Valid.{IsValid}
use Rattle.session_model.specs.Formed.{channels_at}
use Rattle.edition_log.specs.EditionState.{EditionState as Edition, IsEditionOf}
use Rattle.audio_source.specs.Opened.{OpenedSource, IsListed}
use Rattle.disk_ring.specs.Sender.{Sender}
use Rattle.disk_ring.specs.Receiver.{Receiver}
use Rattle.piece_item.specs.declared.item.Item.{Item}
use Rattle.piece_item.specs.declared.take_block.TakeBlock.{TakeBlock}
use Rattle.piece_item.specs.declared.butler_ends.ButlerEnds.{ButlerEnds}
use Rattle.butler.specs.ButlerState.{ButlerState}

-- the end of a new ring of this depth and room
pub record IsNewSender (depth room : ℕ) (d : Sender Item) : Type 0 where
  pub deep : d.depth ≡ depth
  pub wide : d.room ≡ room
  pub nothing_sent : d.sent ≡ []
  pub not_closed : d.closed ≡ false

-- the other end of a new ring of this room
pub record IsNewReceiver (room : ℕ) (r : Receiver TakeBlock) : Type 0 where
  pub wide : r.room ≡ room
  pub none_received : r.received ≡ []
  pub not_ended : r.ended ≡ false

-- What a butler may begin with: an edition of a session, its sources, and the ends of new rings, two for each track.
pub record MayBegin (s : Session) (e : Edition) (sources : List OpenedSource) (cycles : ℕ) (ends : ButlerEnds) : Type 0 where
  pub valid : IsValid s
  pub edition_of : IsEditionOf s e
  pub sources_of : IsListed s.rate s.sources.items sources
  pub some_cycle : 1 ≤ cycles
  pub near : cycles ≤ 100000
  pub tracks : length ends.sends.items ≡ length s.tracks.items
  pub each : (t : ℕ) (d : Sender Item) → slice_get ends.sends.items t ≡ Some d → IsNewSender s.depth (s.block * channels_at s t) d
  pub captures : length ends.takes.items ≡ length s.tracks.items
  pub each_capture : (t : ℕ) (r : Receiver TakeBlock) → slice_get ends.takes.items t ≡ Some r → IsNewReceiver (s.block * channels_at s t) r
  pub acks_room : ends.acks.room ≡ 0
  pub none_received : ends.acks.received ≡ []
  pub not_ended : ends.acks.ended ≡ false

-- it has what it was given, and nothing failed
pub record IsGiven {V : Type 0} (media : V) (sources : List OpenedSource) (cycles : ℕ) (ends : ButlerEnds) (b : ButlerState V) : Type 0 where
  pub media_is : b.media ≡ media
  pub sources_is : b.sources ≡ record { opened = sources; held = [] }
  pub cycles_is : b.cycles ≡ cycles
  pub ends_is : b.ends ≡ ends
  pub not_hushed : b.hushed ≡ false
  pub no_write_failed : b.write_failed ≡ false
  pub no_take_failed : b.drain.files.failed ≡ []
