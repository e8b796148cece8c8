-- What is heard in a cycle: a session, by what was received of each track.
use Rattle.std.specs.Prelude.{ℕ, List, length, map}
use Rattle.sound_model.specs.Wav.{sound_bytes}
use Rattle.ses_units.specs.Bits.{bits_of}
use Rattle.session_model.specs.declared.session.Session.{Session}
use Rattle.engine_model.specs.Mixed.{mixed_in}
use Rattle.edition_log.specs.EditionState.{EditionState as Edition}
use Rattle.disk_ring.specs.Receiver.{Receiver}
use Rattle.piece_item.specs.declared.item.Item.{Item}
use Rattle.cycle_journal.specs.declared.entry.State.{State}
use Rattle.cycle_journal.specs.JournalView.{seen_state}
use Rattle.track_playback.specs.SpareBoxes.{received_items}

pub record Listened : Type 0 where
  pub session : Session
  pub plays : List (Receiver Item)

-- the bytes of the master's block in a state
abbrev pub heard_bytes : Listened → Edition → State → List ℕ
heard_bytes on e state = sound_bytes (bits_of on.session.bits) (mixed_in on.session e.edits (map received_items on.plays) (length e.edits) (seen_state state))
