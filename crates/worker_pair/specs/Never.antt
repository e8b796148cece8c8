-- Editions that never record: all that a run plays in which nothing is to be recorded.
use Rattle.std.specs.Prelude.{◌≡◌, ℕ, Bool, false, List, [], slice_get, Some}
use Rattle.session_model.specs.declared.session.Session.{Session}
use Rattle.session_model.specs.declared.edit.Edit.{Edit}
use Rattle.session_model.specs.declared.edit.Edit.TheVariants.{Roll, Stop, Quit, Recording, Locate, Loop, LoopOff, Arm, Solo, Mute, Gain, Pan, Mode, Point, Unpoint, Connect, Send, Unsend, Add, Remove, Move, Trim, Layer, Opaque, RegionGain, Fade, Shape}
use Rattle.engine_model.specs.Editions.{edition}
use Rattle.disk_ring.specs.Sender.{Sender}
use Rattle.piece_item.specs.declared.take_block.TakeBlock.{TakeBlock}

-- no edition of these edits has its transport record
abbrev pub NeverRecords : Session → List Edit → Type 0
NeverRecords s edits = (k : ℕ) → (edition s edits k).transport.recording ≡ false

-- an edit that lets the transport record
abbrev pub starts_recording : Edit → Bool
starts_recording (Recording on) = on
starts_recording Roll = false
starts_recording Stop = false
starts_recording Quit = false
starts_recording (Locate to) = false
starts_recording (Loop from to) = false
starts_recording LoopOff = false
starts_recording (Arm track on) = false
starts_recording (Solo track on) = false
starts_recording (Mute route on) = false
starts_recording (Gain route gain) = false
starts_recording (Pan route left right) = false
starts_recording (Mode route mode) = false
starts_recording (Point route at gain) = false
starts_recording (Unpoint route at) = false
starts_recording (Connect route target) = false
starts_recording (Send route target pre gain) = false
starts_recording (Unsend route target) = false
starts_recording (Add track id source start long at layer) = false
starts_recording (Remove track id) = false
starts_recording (Move track id at) = false
starts_recording (Trim track id start long) = false
starts_recording (Layer track id layer) = false
starts_recording (Opaque track id on) = false
starts_recording (RegionGain track id gain) = false
starts_recording (Fade track id fade_in fade_out) = false
starts_recording (Shape track id shape_in shape_out) = false

-- nothing was ever put into a capture ring, and none was found full
pub record IsUntouched (d : Sender TakeBlock) : Type 0 where
  pub sent : d.sent ≡ []
  pub heads : d.heads ≡ []

abbrev pub NothingIsTaken : List (Sender TakeBlock) → Type 0
NothingIsTaken takes = (t : ℕ) (d : Sender TakeBlock) → slice_get takes t ≡ Some d → IsUntouched d
