-- What is said of control's lines: the edits that they make, what is answered to them, and patience. Lists stand with their first one first.
use Rattle.std.specs.Prelude.{◌≡◌, ℕ, true, List, [], slice_get, Some, All}
use Rattle.std.specs.List.{list_all}
use Rattle.session_model.specs.declared.session.Session.{Session}
use Rattle.engine_model.specs.Journal.{Entry}
use Rattle.engine_model.specs.Due.{Ack}
use Rattle.engine_model.specs.Plain.{accepted, plain}
use Rattle.engine_model.specs.Lines.{Line, accepted_of, commands_of}
use Rattle.engine_model.specs.Replies.{AreReplies, is_acknowledged, plain_replies}
use Rattle.engine_model.specs.Truth.{is_within}
use Rattle.engine_model.specs.Waited.{are_waited}

-- The edits that lines make are those that a run of their commands makes, however many cycles are asked.
abbrev pub AcceptedByLines : Type 0
AcceptedByLines = (session : Session) (cycles : ℕ) (lines : List Line) → accepted_of session lines ≡ accepted session cycles (commands_of lines)

-- ---- replies

-- An acknowledgement says what an entry of the journal has settled.
pub record IsAckOf (journal : List Entry) (ack : Ack) : Type 0 where
  pub place : ℕ
  pub entry : Entry
  pub there : slice_get journal place ≡ Some entry
  pub settled : ack.settled ≡ entry.settled

-- The replies of a run on one thread are replies to its lines, and each is true of its journal and of whatever acknowledgements
-- the entries gave.
pub record PlainRepliesAre (session : Session) (cycles : ℕ) (lines : List Line) : Type 0 where
  pub replies : AreReplies session [] lines (plain_replies session cycles lines)
  pub acknowledged : (acks : List Ack) → All (IsAckOf (plain session cycles (commands_of lines))) acks →
      list_all (is_acknowledged acks (plain session cycles (commands_of lines))) (plain_replies session cycles lines) ≡ true

abbrev pub PlainRepliesAreReplies : Type 0
PlainRepliesAreReplies = (session : Session) (cycles : ℕ) (lines : List Line) → PlainRepliesAre session cycles lines

-- ---- patience

-- With a patience of one, each piece that isn't there has one look of its own;
abbrev pub PatienceOfOne : Type 0
PatienceOfOne = (looked tails : List ℕ) → are_waited 1 looked tails ≡ is_within looked tails

-- with more, at least that.
abbrev pub PatienceHasALook : Type 0
PatienceHasALook = (patience : ℕ) (looked tails : List ℕ) → are_waited patience looked tails ≡ true → is_within looked tails ≡ true
