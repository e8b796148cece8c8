-- What an edit does to an edition.
use Rattle.std.specs.Prelude.{◌≡◌, ◌<◌, ◌^◌, ℕ, List, [], ◌∷◌, ◌++◌, length, set, Option, Some, None, IsSome, Result, Ok, Err, IsOk}
use Rattle.session_model.specs.declared.edit.Edit.{Edit}
use Rattle.session_model.specs.declared.edit.Edit.TheVariants.{Roll, Stop, Quit, Recording, Locate, Loop, LoopOff, Arm, Solo, Mute, Gain, Pan, Mode, Point, Unpoint, Connect, Send, Unsend, Add, Remove, Move, Trim, Layer, Opaque, RegionGain, Fade, Shape}
use Rattle.engine_model.specs.Commands.{change_of}
use Rattle.engine_model.specs.Editions.{apply}
use Rattle.engine_model.specs.Transport.{Wrap}
use Rattle.locate_loop.specs.Transport.{transport_of}
use Rattle.session_change.specs.declared.change.Change.{Change}
use Rattle.session_change.specs.Change.{change_seen}
use Rattle.edit_resolve.specs.declared.reason.Refusal.{Refusal}
use Rattle.edit_resolve.specs.Reason.{refusal_of}
use Rattle.edition_log.specs.EditionState.{EditionState, state_of}

-- What `apply` leaves: the next state with the edit at the list's end, or the first refusal and nothing changed.
abbrev pub Applies : EditionState → Edit → Result ℕ Refusal → EditionState → Type 0
Applies old edit (Ok number) new = (apply (state_of old) edit ≡ Ok (state_of new)) × (number ≡ (state_of new).number)
    × (new.edits ≡ old.edits ++ edit ∷ []) × (new.ended ≡ old.ended)
Applies old edit (Err why) new = (apply (state_of old) edit ≡ Err (refusal_of why)) × (new ≡ old)

-- What `admits` answers: that the edit is accepted, or the refusal that `apply` would give.
abbrev pub Admits : EditionState → Edit → Result (Unit {0}) Refusal → Type 0
Admits e edit (Ok _) = IsOk (apply (state_of e) edit)
Admits e edit (Err why) = apply (state_of e) edit ≡ Err (refusal_of why)

-- What is answered of an edit: what it changes, or why it isn't accepted.
abbrev pub Resolved : EditionState → Edit → Result Change Refusal → Type 0
Resolved e edit (Ok c) = (length e.edits < 10000) × (change_of e.session (transport_of e.transport).wrap edit ≡ Ok (change_seen c))
Resolved e edit (Err why) = apply (state_of e) edit ≡ Err (refusal_of why)

-- the number of the edit stands at the track whose playlist the change is of; the others are as they were
abbrev pub noted : Option ℕ → ℕ → List ℕ → List ℕ
noted None number touched = touched
noted (Some track) number touched = set touched track number

-- what the transport needs of an edit that is accepted, where this loop is in force
abbrev pub MayMove : Option Wrap → Edit → Type 0
MayMove wrap Roll = Unit {0}
MayMove wrap Stop = Unit {0}
MayMove wrap Quit = Unit {0}
MayMove wrap (Recording on) = Unit {0}
MayMove wrap (Locate to) = to < 2 ^ 40
MayMove wrap (Loop from to) = (from < to) × (to < 2 ^ 40)
MayMove wrap LoopOff = IsSome wrap
MayMove wrap (Arm track on) = Unit {0}
MayMove wrap (Solo track on) = Unit {0}
MayMove wrap (Mute route on) = Unit {0}
MayMove wrap (Gain route gain) = Unit {0}
MayMove wrap (Pan route left right) = Unit {0}
MayMove wrap (Mode route mode) = Unit {0}
MayMove wrap (Point route at gain) = Unit {0}
MayMove wrap (Unpoint route at) = Unit {0}
MayMove wrap (Connect route target) = Unit {0}
MayMove wrap (Send route target pre gain) = Unit {0}
MayMove wrap (Unsend route target) = Unit {0}
MayMove wrap (Add track id source start long at layer) = Unit {0}
MayMove wrap (Remove track id) = Unit {0}
MayMove wrap (Move track id at) = Unit {0}
MayMove wrap (Trim track id start long) = Unit {0}
MayMove wrap (Layer track id layer) = Unit {0}
MayMove wrap (Opaque track id on) = Unit {0}
MayMove wrap (RegionGain track id gain) = Unit {0}
MayMove wrap (Fade track id fade_in fade_out) = Unit {0}
MayMove wrap (Shape track id shape_in shape_out) = Unit {0}
