-- A butler on a bench, as tests have it: what is so of its session, of its rings and of itself.
use Rattle.std.specs.Prelude.{◌≡◌, ℕ, ◌*◌, ◌≤◌, List, [], length, take, slice_get, Some, false}
use Rattle.session_model.specs.declared.session.Session.{Session}
use Rattle.session_model.specs.Valid.{IsValid}
use Rattle.session_model.specs.Formed.{channels_at}
use Rattle.edition_log.specs.EditionState.{EditionState as Edition, IsEditionOf}
use Rattle.edition_log.specs.Entered.{Entered}
use Rattle.audio_source.specs.Opened.{IsListed}
use Rattle.audio_source.specs.Lines.{SourcesState}
use Rattle.disk_ring.specs.Sender.{Sender}
use Rattle.disk_ring.specs.Receiver.{Receiver}
use Rattle.piece_item.specs.declared.item.Item.{Item}
use Rattle.piece_item.specs.declared.ack.Ack.{Ack}
use Rattle.piece_item.specs.declared.take_block.TakeBlock.{TakeBlock}
use Rattle.piece_item.specs.declared.butler_ends.ButlerEnds.{ButlerEnds}
use Rattle.butler.specs.Begins.{IsNewSender, IsNewReceiver}
use Rattle.butler.specs.ButlerState.{ButlerState}
use Rattle.butler.specs.Serving.{IsServing}

-- the session, edition 0 of it, and its sources, none of which was read
pub record IsOpened (s : Session) (e : Edition) (sources : SourcesState) : Type 0 where
  pub valid : IsValid s
  pub session_is : e.session ≡ s
  pub edition_of : IsEditionOf s e
  pub no_edit : e.edits ≡ []
  pub listed : IsListed s.rate s.sources.items sources.opened
  pub held : sources.held ≡ []

-- ---- rings

-- each of so many tracks has its new end
pub record AreOfTracks {A : Type 0} (is : ℕ → A → Type 0) (n : ℕ) (ends : List A) : Type 0 where
  pub many : length ends ≡ n
  pub each : (t : ℕ) (x : A) → slice_get ends t ≡ Some x → is t x

-- the end that sends the items of a track
abbrev pub SendsFirst : Session → ℕ → Sender Item → Type 0
SendsFirst s t d = IsNewSender s.depth (s.block * channels_at s t) d

-- the end that takes its recorded blocks
abbrev pub TakesFirst : Session → ℕ → Receiver TakeBlock → Type 0
TakesFirst s t r = IsNewReceiver (s.block * channels_at s t) r

-- the end of a new ring of acknowledgements
pub record IsNewAckEnd (r : Receiver Ack) : Type 0 where
  pub room : r.room ≡ 0
  pub none_received : r.received ≡ []
  pub not_ended : r.ended ≡ false

-- the butler's ends of new rings
pub record AreNewEnds (s : Session) (ends : ButlerEnds) : Type 0 where
  pub sends : AreOfTracks (SendsFirst s) (length s.tracks.items) ends.sends.items
  pub takes : AreOfTracks (TakesFirst s) (length s.tracks.items) ends.takes.items
  pub acks : IsNewAckEnd ends.acks

-- ---- a butler

-- the session that was opened, and the first so many edits of an edition
abbrev pub entered_by : Session → Edition → ℕ → Entered
entered_by s e n = record { session = s; edits = take n e.edits }

-- it serves the session, entered the first so many edits, and may enter the edition
pub record IsServed {V : Type 0} (s : Session) (b : ButlerState V) (e : Edition) (entered : ℕ) : Type 0 where
  pub few : entered ≤ length e.edits
  pub serving : IsServing s (take entered e.edits) b
  pub edition_of : IsEditionOf s e
