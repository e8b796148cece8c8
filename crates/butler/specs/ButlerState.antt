-- What contracts see of a butler.
use Rattle.std.specs.Prelude.{ℕ, Bool, List}
use Rattle.ses_io.specs.Files.{Files}
use Rattle.session_model.specs.declared.session.Session.{Session}
use Rattle.session_model.specs.declared.edit.Edit.{Edit}
use Rattle.audio_source.specs.Lines.{SourcesState}
use Rattle.piece_item.specs.declared.butler_ends.ButlerEnds.{ButlerEnds}
use Rattle.read_ahead.specs.declared.supply.TrackSupply.{TrackSupply}
use Rattle.capture_drain.specs.State.{DrainState}
use Rattle.capture_drain.specs.Files.{RunStart}

pub record ButlerState (V : Type 0) : Type 0 where
  pub media : V
  -- the sources that were opened, and the lines of them that are held
  pub sources : SourcesState
  -- the frames that there is room to render
  pub room : ℕ
  -- how many cycles were asked
  pub cycles : ℕ
  pub ends : ButlerEnds
  -- of each track how far ahead it is, and a box to be filled
  pub supplies : List TrackSupply
  -- the take files, and a box for each capture ring
  pub drain : DrainState
  -- of each generation the greatest next block that was acknowledged
  pub nexts : List ℕ
  -- the number of the edition that was entered last
  pub entered : ℕ
  -- whether nothing is sent any more, since a read failed or it was told so, and whether a write failed
  pub hushed : Bool
  pub write_failed : Bool

-- a butler whose ends are elsewhere
pub record Rested (V : Type 0) : Type 0 where
  pub media : V
  pub sources : SourcesState
  pub room : ℕ
  pub cycles : ℕ
  pub supplies : List TrackSupply
  pub drain : DrainState
  pub nexts : List ℕ
  pub entered : ℕ
  -- whether the ring of acknowledgements answered Closed
  pub ended : Bool
  pub hushed : Bool
  pub write_failed : Bool

abbrev pub rested : {V : Type 0} → ButlerState V → Rested V
rested b = record {
  media = b.media;
  sources = b.sources;
  room = b.room;
  cycles = b.cycles;
  supplies = b.supplies;
  drain = b.drain;
  nexts = b.nexts;
  entered = b.entered;
  ended = b.ends.acks.ended;
  hushed = b.hushed;
  write_failed = b.write_failed;
}

abbrev pub resumed : {V : Type 0} → Rested V → ButlerEnds → ButlerState V
resumed r ends = record {
  media = r.media;
  sources = r.sources;
  room = r.room;
  cycles = r.cycles;
  ends = ends;
  supplies = r.supplies;
  drain = r.drain;
  nexts = r.nexts;
  entered = r.entered;
  hushed = r.hushed;
  write_failed = r.write_failed;
}

-- what no butler holds and clauses speak of: the session that was opened, the files as the media held them then, and the edits that
-- the butler entered last
pub record Served : Type 0 where
  pub session : Session
  pub held : Files
  pub edits : List Edit

abbrev pub start_of : Served → RunStart
start_of at = record { session = at.session; held = at.held }
