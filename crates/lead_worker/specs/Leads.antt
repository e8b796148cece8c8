-- What control's thread says by its lines: edits, replies and grants, and what it leaves.
use Rattle.std.specs.Prelude.{◌≡◌, ℕ, Bool, true, false, List, [], ◌∷◌, ◌++◌, length, reverse, Option, Some, None}
use Rattle.std.specs.List.{list_all}
use Rattle.ses_io.specs.Outside.{SourceOutside, SinkOutside}
use Rattle.session_model.specs.declared.session.Session.{Session}
use Rattle.session_model.specs.declared.edit.Edit.{Edit}
use Rattle.engine_model.specs.Due.{Ack}
use Rattle.engine_model.specs.Edits.{has_quit}
use Rattle.engine_model.specs.Lines.{Line, Says, accepted_of}
use Rattle.engine_model.specs.Plain.{Do}
use Rattle.engine_model.specs.Replies.{Reply, AreReplies}
use Rattle.engine_model.specs.Waited.{AreGranted, Pace, Pause, Sought, paces_from}
use Rattle.machine_model.specs.Control.{Awaited, Entries, SettledIn}
use Rattle.edition_log.specs.EditionState.{IsEditionOf}
use Rattle.control_desk.specs.declared.progress.Progress.{Progress}
use Rattle.control_desk.specs.declared.standing.End.TheVariants.{NoLine}
use Rattle.control_desk.specs.GoesOn.{GoesOn}
use Rattle.control_desk.specs.State.{ControlState, Tells, ahead}
use Rattle.control_desk.specs.Standing as desk
use Rattle.control_desk.specs.Standing.{Ended, Ready, awaits_of, is_ended}
use Rattle.control_letter.specs.Shown.{shown_core, standing_by}
use Rattle.serial_laws.specs.Answered.{HasAnswered}
use Rattle.route_lists.specs.Lists.{Published}
use Rattle.cycle_grants.specs.Grants.{shown_of}
use Rattle.disk_ring.specs.Receiver.{Receiver}
use Rattle.disk_ring.specs.Sender.{Sender}
use Rattle.piece_item.specs.declared.ack.Ack as ring
use Rattle.run_world.specs.declared.finished.Grant.{Grant}
use Rattle.lead_worker.specs.declared.link.ProcessLink.{ProcessLink}
use Rattle.lead_worker.specs.Heard.{acks_in, is_heard}
use Rattle.lead_worker.specs.Links.{IsPaced}

-- ---- one line

-- what control sees at a line of its own: nothing that it awaits is over yet
abbrev pub at_line : ℕ → Progress
at_line edits = record { edits = edits; entries = 0; settled = None; played_out = false }

-- the pace that a line adds in this edition, by what is awaited then
abbrev pub Adds : ℕ → Option Awaited → List Pace → List Pace → Type 0
Adds edition None before now = now ≡ before
Adds edition (Some (Entries n)) before now = now ≡ before ++ Pause n edition ∷ []
Adds edition (Some (SettledIn k)) before now = (k ≡ edition) × (now ≡ before ++ Sought edition ∷ [])

-- replies that go by no acknowledgement
abbrev pub ArePlain : List Reply → Type 0
ArePlain replies = (acks : List Ack) (ended : Bool) → list_all (is_heard acks ended) replies ≡ true

module _ {C O : Type 0} (source : SourceOutside C) (sink : SinkOutside O) (s : Session) (from : ControlState C O) where
  -- **Control that was so at first has carried out these lines**, given these replies, the newest first, and published these edits.
  pub record HasSaid (lines : List Line) (replies : List Reply) (edits : List Edit) (control : ControlState C O) : Type 0 where
    pub goes : GoesOn source sink from lines (reverse replies) control
    -- where it has ended since no line is left, they are all that were to come
    pub last : control.standing ≡ Ended NoLine → Tells source from.script → ahead source from ≡ lines
    -- edits and replies are those of the lines, whatever lines follow
    pub answered : HasAnswered s lines (standing_by (shown_core s edits []) control.standing replies)
    -- it has ended by a quit exactly where an edit has quit
    pub unquit : is_ended control.standing ≡ false → has_quit edits (length edits) ≡ false
    pub quits : desk.has_quit control.standing ≡ has_quit edits (length edits)

  -- A line was carried out, or none is left: what it gave is answered, or awaited.
  pub record TakesALine (lines : List Line) (replies : List Reply) (edits : List Edit) (control : ControlState C O) : Type 0 where
    pub taken : List Line
    pub given : List Reply
    pub said : HasSaid (lines ++ taken) (given ++ replies) edits control
    pub adds : Adds (length edits) (awaits_of control.standing) (paces_from s [] lines) (paces_from s [] (lines ++ taken))
    pub plain : ArePlain given

  -- There was no memory for the edit of a line: it was taken, and neither published nor answered.
  pub record LosesAnEdit (lines : List Line) (replies : List Reply) (control : ControlState C O) : Type 0 where
    pub edit : Edit
    pub goes : GoesOn source sink from (lines ++ Says (Do edit) ∷ []) (reverse replies) control
    pub ready : control.standing ≡ Ready

module _ {C O : Type 0} (source : SourceOutside C) (sink : SinkOutside O) (s : Session) where
  -- what became of a line, by whatever control has said before
  abbrev pub Carries : List Edit → ControlState C O → (wanting : Bool) → List Edit → ControlState C O → Type 0
  Carries edits old true edits_now new = (edits_now ≡ edits) × ((from : ControlState C O) (lines : List Line) (replies : List Reply) → HasSaid source sink s from lines replies edits old → LosesAnEdit source sink s from lines replies new)
  Carries edits old false edits_now new = (from : ControlState C O) (lines : List Line) (replies : List Reply) → HasSaid source sink s from lines replies edits old → TakesALine source sink s from lines replies edits_now new

-- ---- all lines

-- what control sees once the cycles of a wait were made, or the process has ended: that it is over
abbrev pub after_pause : ℕ → ℕ → Progress
after_pause edits cycles = record { edits = edits; entries = cycles; settled = None; played_out = false }

-- and after a sync: the best acknowledgement, and whether none comes any more
abbrev pub after_sync : ℕ → Option ring.Ack → Bool → Progress
after_sync edits (Some best) closed = record { edits = edits; entries = best.cycle; settled = Some best.settled; played_out = closed }
after_sync edits None closed = record { edits = edits; entries = 0; settled = None; played_out = closed }

-- replies that are true of the acknowledgements that were taken
abbrev pub AreHeard : ProcessLink → List Reply → Type 0
AreHeard link replies = list_all (is_heard (acks_in link.hearing) link.hearing.ended) replies ≡ true

module _ {C O : Type 0} (source : SourceOutside C) (sink : SinkOutside O) (s : Session) (from : ControlState C O) where
  -- **Control has carried out lines**, and the cycles that they ask for are allowed.
  pub record IsLed (list : Published) (control : ControlState C O) (link : ProcessLink) : Type 0 where
    pub lines : List Line
    pub replies : List Reply
    pub said : HasSaid source sink s from lines replies list.edition.edits control
    -- nothing is awaited
    pub free : awaits_of control.standing ≡ None
    pub paced : IsPaced (paces_from s [] lines) link
    pub heard : AreHeard link replies
    pub edition_of : IsEditionOf s list.edition
    pub not_ended : list.edition.ended ≡ false

  -- and then there was no memory for an edit
  pub record WantsMemory (list : Published) (control : ControlState C O) (link : ProcessLink) : Type 0 where
    pub before : ControlState C O
    pub led : IsLed list before link
    pub loses : LosesAnEdit source sink s from led.lines led.replies control

  abbrev pub IsLedUntil : Published → ControlState C O → ProcessLink → Bool → Type 0
  IsLedUntil list control link true = WantsMemory list control link
  IsLedUntil list control link false = IsLed list control link × (is_ended control.standing ≡ true)

module _ {C O : Type 0} (source : SourceOutside C) (sink : SinkOutside O) where
  -- What was awaited was answered, and nothing is; all cycles that lines asked for are allowed.
  pub record IsSettled (s : Session) (from : ControlState C O) (lines : List Line) (replies : List Reply) (edits : List Edit) (control : ControlState C O) (link : ProcessLink) : Type 0 where
    pub given : List Reply
    pub said : HasSaid source sink s from lines (given ++ replies) edits control
    pub free : awaits_of control.standing ≡ None
    pub paced : IsPaced (paces_from s [] lines) link
    pub heard : AreHeard link (given ++ replies)

  -- by whatever control has said, and with whatever grants were asked for before its last line
  abbrev pub Settles : ℕ → ControlState C O → ProcessLink → ControlState C O → ProcessLink → Type 0
  Settles edition old link new link_now = (s : Session) (from : ControlState C O) (lines : List Line) (replies : List Reply) (edits : List Edit) (before : List Pace) → edition ≡ length edits →
      HasSaid source sink s from lines replies edits old → Adds edition (awaits_of old.standing) before (paces_from s [] lines) → IsPaced before link → AreHeard link replies →
      IsSettled s from lines replies edits new link_now

-- ---- the whole thread

-- Control has done nothing yet: no edit was published, no line was taken, and no cycle allowed.
pub record BeginsToLead {C O : Type 0} (s : Session) (list : Published) (control : ControlState C O) (link : ProcessLink) : Type 0 where
  pub edition_of : IsEditionOf s list.edition
  pub no_edit : list.edition.edits ≡ []
  pub not_ended : list.edition.ended ≡ false
  pub ready : control.standing ≡ Ready
  -- the ring of grants has the session's depth
  pub depth : link.granting.to.depth ≡ s.depth
  pub no_grant : link.granting.to.sent ≡ []
  pub none_left_out : link.granting.over ≡ false

module _ {C O : Type 0} (source : SourceOutside C) (sink : SinkOutside O) (s : Session) (cycles : ℕ) (from : ControlState C O) where
  -- **What control's thread leaves.** For each edit there was memory, unless it says that there wasn't.
  pub record LeadLeaves (memory : Bool) (list : Published) (control : ControlState C O) (grants : Sender Grant) (acks : Receiver ring.Ack) : Type 0 where
    -- lines were carried out, and these replies given, in their order
    pub lines : List Line
    pub replies : List Reply
    -- and one edit more was taken where there was no memory to publish it
    pub unsaid : List Line
    pub whole : memory ≡ false → unsaid ≡ []
    pub one : memory ≡ true → (edit : Edit) × (unsaid ≡ Says (Do edit) ∷ [])
    pub goes : GoesOn source sink from (lines ++ unsaid) replies control
    -- where there was, control has ended: by a quit exactly where an accepted edit has quit; where no line is left, these are all
    pub ended : memory ≡ false → is_ended control.standing ≡ true
    pub quits : memory ≡ false → desk.has_quit control.standing ≡ has_quit list.edition.edits (length list.edition.edits)
    pub last : memory ≡ false → control.standing ≡ Ended NoLine → Tells source from.script → ahead source from ≡ lines
    -- edits, replies and grants are those of the lines
    pub edits : list.edition.edits ≡ accepted_of s lines
    pub answered : AreReplies s [] lines replies
    -- and of these with any that an accepted quit has left, since after a quit none counts
    pub further : (left : List Line) → (desk.has_quit control.standing ≡ false → left ≡ []) → (list.edition.edits ≡ accepted_of s (lines ++ left)) × AreReplies s [] (lines ++ left) replies
    pub granted : AreGranted s cycles list.edition.edits lines (shown_of grants)
    -- grants were left out only once no acknowledgement came any more
    pub left_out : acks.ended ≡ false → granted.rest ≡ []
    -- what was answered to a sync is true of the acknowledgements that were taken
    pub heard : list_all (is_heard (acks_in acks) acks.ended) replies ≡ true
    -- the list goes on
    pub edition_of : IsEditionOf s list.edition
    pub not_ended : list.edition.ended ≡ false
