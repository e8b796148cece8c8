-- The plain walk over the lines of a run without letters, beside its journal and its replies, whatever has failed: in which edition each
-- entry is, and how many there are before each line. Entries made before stand newest first, those that follow stand in their order.
use Rattle.std.specs.Prelude.{◌≡◌, ℕ, ◌+◌, Bool, true, false, ◌||◌, ◌==◌, nat_le, List, [], ◌∷◌, ◌++◌, length, reverse, Option, Some, None, Ok, Err}
use Rattle.std.specs.List.{list_all}
use Rattle.session_model.specs.declared.session.Session.{Session}
use Rattle.session_model.specs.declared.edit.Edit.{Edit}
use Rattle.engine_model.specs.Edits.{has_quit, is_quit}
use Rattle.engine_model.specs.Refusals.{Checked}
use Rattle.engine_model.specs.Editions.{Edition, edition, apply}
use Rattle.engine_model.specs.Journal.{Entry}
use Rattle.engine_model.specs.Lines.{Line, Nothing, Says, Unread}
use Rattle.engine_model.specs.Plain.{Do, Wait, Sync}
use Rattle.engine_model.specs.Replies.{Reply, Accepted, Refused, LineRefused, Done, Begin, synced_by}
use Rattle.machine_model.specs.Core.{Core}
use Rattle.machine_model.specs.Control.{Awaited, Entries, SettledIn, is_last_settled, is_played_out}
use Rattle.serial_laws.specs.Standing.{Standing, MayCome, carried_of, at_first}
use Rattle.serial_laws.specs.Leads.{Carries}

-- ---- what is waited for

-- it has come, by the entries so far: so many were made, or the last one has the edition settled
abbrev pub has_come : Awaited → List Entry → Bool
has_come (Entries n) before = nat_le n (length before)
has_come (SettledIn k) before = is_last_settled k before

-- its answer there
abbrev pub answer_by : Awaited → List Entry → Reply
answer_by (Entries n) before = Done
answer_by (SettledIn k) before = synced_by k before

-- no further cycle can run: all were made, or the process has stopped
abbrev pub none_can_run : ℕ → Bool → List Entry → Bool
none_can_run cycles stopped before = nat_le cycles (length before) || stopped

-- the first where it is true, else the second
abbrev pub Either : Bool → Type 0 → Type 0 → Type 0
Either true P Q = P
Either false P Q = Q

-- Entries are made in edition k until this has come, and no longer; where it doesn't come, until no further cycle can run.
abbrev pub PlaysUntil : (come over : List Entry → Bool) → ℕ → (List Entry → List Entry → Type 0) → List Entry → List Entry → Type 0
PlaysUntil come over k Then before [] = ((come before || over before) ≡ true) × Then before []
PlaysUntil come over k Then before (e ∷ rest) = Either (come before) (Then before (e ∷ rest)) ((e.edition ≡ k) × PlaysUntil come over k Then (e ∷ before) rest)

-- ---- the walk

-- an edit, given what it makes: after an accepted quit there is neither entry nor reply
abbrev pub EditIsPaced : Checked Edition → Bool → (Next Same : List Entry → List Reply → Type 0) → List Entry → List Reply → Type 0
EditIsPaced (Ok next) true Next Same rest replies = (rest ≡ []) × Begin (Accepted next.number) (λ later. later ≡ []) replies
EditIsPaced (Ok next) false Next Same rest replies = Begin (Accepted next.number) (Next rest) replies
EditIsPaced (Err why) quits Next Same rest replies = Begin (Refused why) (Same rest) replies

module _ (s : Session) (cycles : ℕ) (stopped : Bool) where
  -- **These entries and replies follow by these lines**, after so many edits and these entries: each entry's edition is the number of the
  -- edits that were accepted before it, `wait` gives so many entries before its `done`, a `sync` those until the last has its edition
  -- settled, and the end of control gives the rest.
  abbrev pub IsPaced : List Edit → List Entry → List Line → List Entry → List Reply → Type 0
  IsPaced edits before [] rest replies = (list_all (λ e. e.edition == length edits) rest ≡ true) × (replies ≡ [])
  IsPaced edits before (Nothing ∷ ls) rest replies = IsPaced edits before ls rest replies
  IsPaced edits before (Unread why ∷ ls) rest replies = Begin (LineRefused why) (IsPaced edits before ls rest) replies
  IsPaced edits before (Says (Do edit) ∷ ls) rest replies = EditIsPaced (apply (edition s edits (length edits)) edit) (is_quit edit)
      (IsPaced (edits ++ edit ∷ []) before ls) (IsPaced edits before ls) rest replies
  IsPaced edits before (Says (Wait n) ∷ ls) rest replies = PlaysUntil (has_come (Entries (length before + n))) (none_can_run cycles stopped) (length edits)
      (λ now later. Begin (answer_by (Entries (length before + n)) now) (IsPaced edits now ls later) replies) before rest
  IsPaced edits before (Says Sync ∷ ls) rest replies = PlaysUntil (has_come (SettledIn (length edits))) (none_can_run cycles stopped) (length edits)
      (λ now later. Begin (answer_by (SettledIn (length edits)) now) (IsPaced edits now ls later) replies) before rest

  -- what is awaited comes first, and then the lines that are carried out after it
  abbrev pub IsStillPaced : Option Awaited → List Edit → List Entry → List Line → List Entry → List Reply → Type 0
  IsStillPaced None edits before ls rest replies = IsPaced edits before ls rest replies
  IsStillPaced (Some a) edits before ls rest replies = PlaysUntil (has_come a) (none_can_run cycles stopped) (length edits) (λ now later. Begin (answer_by a now) (IsPaced edits now ls later) replies) before rest

-- ---- as far as a run has come

-- What may follow where no further cycle can run, or one can: no entry then, nor after a quit.
pub record MayFollow (cycles : ℕ) (stopped over : Bool) (core : Core) (rest : List Entry) : Type 0 where
  pub out : over ≡ true → none_can_run cycles stopped core.entries ≡ true
  pub none : (has_quit core.edits (length core.edits) || over) ≡ true → rest ≡ []

-- **These lines have made the entries and replies so far**: whatever entries, replies and lines follow by the walk, all follow by it.
abbrev pub HasPaced : Session → ℕ → Bool → List Line → Standing → Type 0
HasPaced s cycles over lines st = (more : List Line) → MayCome st more → (stopped : Bool) (rest : List Entry) (later : List Reply) → MayFollow cycles stopped over st.core rest →
    IsStillPaced s cycles stopped st.awaits st.core.edits st.core.entries (carried_of st more) rest later →
    IsPaced s cycles stopped [] [] (lines ++ more) (reverse st.core.entries ++ rest) (reverse st.replies ++ later)

-- ---- laws

abbrev pub NothingIsPacedAtFirst : Type 0
NothingIsPacedAtFirst = (s : Session) (cycles : ℕ) (over : Bool) → HasPaced s cycles over [] (at_first s)

-- a letter of control, by a state that shows so many cycles that no further one can run, or one can
abbrev pub EachLineIsPaced : Type 0
EachLineIsPaced = (s : Session) (cycles shown : ℕ) (lines taken : List Line) (old new : Standing) → Carries s shown old taken new →
    (old.ended ≡ false → has_quit old.core.edits (length old.core.edits) ≡ false) →
    HasPaced s cycles (is_played_out shown old.core) lines old → HasPaced s cycles (is_played_out shown old.core) (lines ++ taken) new

-- An entry is made in the newest edition, while a cycle is next.
pub record IsNext (over : Bool) (st : Standing) (e : Entry) : Type 0 where
  pub can_run : (has_quit st.core.edits (length st.core.edits) || over) ≡ false
  pub newest : e.edition ≡ length st.core.edits
  pub waits : (a : Awaited) → st.awaits ≡ Some a → has_come a st.core.entries ≡ false
  pub ended : st.awaits ≡ None → st.ended ≡ true

abbrev pub EachEntryIsPaced : Type 0
EachEntryIsPaced = (s : Session) (cycles : ℕ) (over over_now : Bool) (lines : List Line) (st : Standing) (e : Entry) (core : Core) → IsNext over st e → core.edits ≡ st.core.edits →
    core.entries ≡ e ∷ st.core.entries → HasPaced s cycles over lines st → HasPaced s cycles over_now lines (record st { core = core })

-- it goes by edits and entries, and stands where no further cycle can run
abbrev pub ItIsPacedStill : Type 0
ItIsPacedStill = (s : Session) (cycles : ℕ) (over over_now : Bool) (lines : List Line) (st : Standing) (core : Core) → core.edits ≡ st.core.edits → core.entries ≡ st.core.entries →
    (over ≡ true → over_now ≡ true) → HasPaced s cycles over lines st → HasPaced s cycles over_now lines (record st { core = core })

-- once control has ended and no further cycle runs, all is by the walk
abbrev pub AllIsPacedAtTheEnd : Type 0
AllIsPacedAtTheEnd = (s : Session) (cycles : ℕ) (stopped over : Bool) (lines : List Line) (st : Standing) → st.ended ≡ true → st.awaits ≡ None →
    (over ≡ true → none_can_run cycles stopped st.core.entries ≡ true) → HasPaced s cycles over lines st → IsPaced s cycles stopped [] [] lines (reverse st.core.entries) (reverse st.replies)
