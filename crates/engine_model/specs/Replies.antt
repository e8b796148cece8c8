-- What control answers to its lines (own). All but the answer to `sync` is a function of the lines.
use Rattle.std.specs.Prelude.{◌≡◌, ℕ, suc, ◌-◌, Bool, true, false, ◌&&◌, nat_le, nat_lt, if◌then◌else◌, List, [], ◌∷◌, ◌++◌, length, slice_get, Ok, Err}
use Rattle.std.specs.List.{list_all}
use Rattle.std.specs.Option.{option_map_or}
use Rattle.session_model.specs.declared.session.Session.{Session}
use Rattle.session_model.specs.declared.edit.Edit.{Edit}
use Rattle.engine_model.specs.Edits.{is_quit}
use Rattle.engine_model.specs.Refusals.{Refusal, Checked}
use Rattle.engine_model.specs.Editions.{Edition, edition, apply}
use Rattle.engine_model.specs.Journal.{Entry}
use Rattle.engine_model.specs.Due.{Ack}
use Rattle.engine_model.specs.Plain.{Do, Wait, Sync, Run, with_cycles, with_edit, needs_cycle}
use Rattle.engine_model.specs.Lines.{LineRefusal, Line, Nothing, Says, Unread}

pub data Reply : Type 0 where
  -- the edition that an edit made
  Accepted : ℕ → Reply
  Refused : Refusal → Reply
  LineRefused : LineRefusal → Reply
  -- a wait is over
  Done : Reply
  -- edition, and an entry that has it settled; entries count from 1
  Synced : ℕ → ℕ → Reply
  -- no entry has the edition settled, and none will
  NotSynced : ℕ → Reply

-- ---- which replies are those of lines

-- replies begin with one, and go on as it is said
abbrev pub Begin : Reply → (List Reply → Type 0) → List Reply → Type 0
Begin reply Rest replies = (rest : List Reply) × (replies ≡ reply ∷ rest) × Rest rest

-- they begin with what is answered to a sync in edition k
abbrev pub BeginSynced : ℕ → (List Reply → Type 0) → List Reply → Type 0
BeginSynced k Rest [] = ⊥
BeginSynced k Rest (Synced j entry ∷ rest) = (j ≡ k) × Rest rest
BeginSynced k Rest (NotSynced j ∷ rest) = (j ≡ k) × Rest rest
BeginSynced k Rest (Accepted j ∷ rest) = ⊥
BeginSynced k Rest (Refused why ∷ rest) = ⊥
BeginSynced k Rest (LineRefused why ∷ rest) = ⊥
BeginSynced k Rest (Done ∷ rest) = ⊥

-- they are those of an edit, given what it makes; after a quit nothing is answered
abbrev pub AnswerEdit : Checked Edition → Bool → (List Reply → Type 0) → (List Reply → Type 0) → List Reply → Type 0
AnswerEdit (Ok next) true Next Same replies = Begin (Accepted next.number) (λ rest. rest ≡ []) replies
AnswerEdit (Ok next) false Next Same replies = Begin (Accepted next.number) Next replies
AnswerEdit (Err why) quits Next Same replies = Begin (Refused why) Same replies

-- the replies to lines, after so many accepted edits
abbrev pub AreReplies : Session → List Edit → List Line → List Reply → Type 0
AreReplies session edits [] replies = replies ≡ []
AreReplies session edits (Nothing ∷ ls) replies = AreReplies session edits ls replies
AreReplies session edits (Unread why ∷ ls) replies = Begin (LineRefused why) (AreReplies session edits ls) replies
AreReplies session edits (Says (Wait n) ∷ ls) replies = Begin Done (AreReplies session edits ls) replies
AreReplies session edits (Says Sync ∷ ls) replies = BeginSynced (length edits) (AreReplies session edits ls) replies
AreReplies session edits (Says (Do edit) ∷ ls) replies = AnswerEdit (apply (edition session edits (length edits)) edit) (is_quit edit)
    (AreReplies session (edits ++ edit ∷ []) ls) (AreReplies session edits ls) replies

-- A reply is true of a journal, whose first entry stands first, and of the acknowledgements that were sent to control: an
-- entry that is named as synced has the edition settled, and where none is, no acknowledgement had it.
abbrev pub is_acknowledged : List Ack → List Entry → Reply → Bool
is_acknowledged acks journal (Accepted k) = true
is_acknowledged acks journal (Refused why) = true
is_acknowledged acks journal (LineRefused why) = true
is_acknowledged acks journal Done = true
is_acknowledged acks journal (Synced k entry) = nat_lt 0 entry && option_map_or (λ e. nat_le k e.settled) (slice_get journal (entry - 1)) false
is_acknowledged acks journal (NotSynced k) = list_all (λ a. nat_lt a.settled k) acks

-- ---- the replies of a plain run

-- what is answered to a sync in edition k, by the entries made so far, the newest first
abbrev pub synced_by : ℕ → List Entry → Reply
synced_by k [] = NotSynced k
synced_by k (e ∷ before) = if nat_le k e.settled then Synced k (suc (length before)) else NotSynced k

abbrev pub with_sync : Session → ℕ → Run → Run
with_sync session cycles run = if needs_cycle (length run.edits) run.entries then with_cycles session cycles 1 run else run

-- what is answered to an edit, given what it makes, before the replies that follow where it is accepted and where it isn't
abbrev pub edit_answered : Checked Edition → List Reply → List Reply → List Reply
edit_answered (Ok next) after same = Accepted next.number ∷ after
edit_answered (Err why) after same = Refused why ∷ same

-- the replies from a run on
abbrev pub plain_replies_from : Session → ℕ → Run → List Line → List Reply
plain_replies_from session cycles run [] = []
plain_replies_from session cycles run (Nothing ∷ ls) = plain_replies_from session cycles run ls
plain_replies_from session cycles run (Unread why ∷ ls) = LineRefused why ∷ plain_replies_from session cycles run ls
plain_replies_from session cycles run (Says (Wait n) ∷ ls) = Done ∷ plain_replies_from session cycles (with_cycles session cycles n run) ls
plain_replies_from session cycles run (Says Sync ∷ ls) = synced_by (length run.edits) (with_sync session cycles run).entries
    ∷ plain_replies_from session cycles (with_sync session cycles run) ls
plain_replies_from session cycles run (Says (Do edit) ∷ ls) = edit_answered (apply (edition session run.edits (length run.edits)) edit)
    (if is_quit edit then [] else plain_replies_from session cycles (with_edit run edit) ls) (plain_replies_from session cycles run ls)

abbrev pub plain_replies : Session → ℕ → List Line → List Reply
plain_replies session cycles lines = plain_replies_from session cycles (record { edits = []; entries = [] }) lines
