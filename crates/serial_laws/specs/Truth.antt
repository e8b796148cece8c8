-- Why the replies of a run are true, and stay so.
use Rattle.std.specs.Prelude.{◌≡◌, ◌⊎◌, ℕ, ◌-◌, Bool, true, false, nat_lt, nat_le, List, [], ◌∷◌, reverse, slice_get, Some}
use Rattle.std.specs.List.{list_all}
use Rattle.std.specs.Option.{option_map_or}
use Rattle.session_model.specs.declared.session.Session.{Session}
use Rattle.engine_model.specs.Due.{Ack}
use Rattle.engine_model.specs.Fits.{is_lawful_newest}
use Rattle.engine_model.specs.Journal.{Entry}
use Rattle.engine_model.specs.Lines.{Line}
use Rattle.engine_model.specs.Replies.{Reply, Accepted, Refused, LineRefused, Done, Synced, NotSynced, is_acknowledged}
use Rattle.machine_model.specs.Control.{is_played_out}
use Rattle.serial_laws.specs.Standing.{Standing}
use Rattle.serial_laws.specs.Leads.{Carries}

-- A reply holds of these entries, the newest first: an entry that is named as synced has the edition settled; where none is, none has it,
-- and no further entry will be made.
abbrev pub Holds : Bool → List Entry → Reply → Type 0
Holds over entries (Accepted k) = Unit {0}
Holds over entries (Refused why) = Unit {0}
Holds over entries (LineRefused why) = Unit {0}
Holds over entries Done = Unit {0}
Holds over entries (Synced k n) = (nat_lt 0 n ≡ true) × (option_map_or (λ e. nat_le k e.settled) (slice_get (reverse entries) (n - 1)) false ≡ true)
Holds over entries (NotSynced k) = (over ≡ true) × (list_all (λ e. nat_lt e.settled k) entries ≡ true)

abbrev pub AllHold : Bool → List Entry → List Reply → Type 0
AllHold over entries [] = Unit {0}
AllHold over entries (reply ∷ replies) = Holds over entries reply × AllHold over entries replies

-- ---- laws

-- what control answers holds when it is given, where the journal is lawful
abbrev pub AnswersHold : Type 0
AnswersHold = (s : Session) (cycles : ℕ) (old new : Standing) (taken : List Line) → Carries s cycles old taken new → is_lawful_newest s old.core.edits old.core.entries ≡ true →
    AllHold (is_played_out cycles old.core) old.core.entries old.replies → AllHold (is_played_out cycles old.core) old.core.entries new.replies

-- The entries stay, or there is one more while one can be made; and where none can be made, none ever will.
pub record Grows (over : Bool) (entries : List Entry) (over_now : Bool) (now : List Entry) : Type 0 where
  pub entries_are : (now ≡ entries) ⊎ ((e : Entry) × (now ≡ e ∷ entries) × (over ≡ false))
  pub stays_over : over ≡ true → over_now ≡ true

-- and it holds while the journal grows
abbrev pub AnswersHoldOn : Type 0
AnswersHoldOn = (over over_now : Bool) (entries now : List Entry) (replies : List Reply) → Grows over entries over_now now → AllHold over entries replies → AllHold over_now now replies

-- an acknowledgement says what one of the entries has settled
pub record IsOfEntry (entries : List Entry) (ack : Ack) : Type 0 where
  pub place : ℕ
  pub entry : Entry
  pub there : slice_get entries place ≡ Some entry
  pub settled : ack.settled ≡ entry.settled

abbrev pub AreOfEntries : List Entry → List Ack → Type 0
AreOfEntries entries [] = Unit {0}
AreOfEntries entries (a ∷ acks) = IsOfEntry entries a × AreOfEntries entries acks

-- so that at any time each reply is true of the journal, and of what was acknowledged to control
abbrev pub WhatHoldsIsTrue : Type 0
WhatHoldsIsTrue = (over : Bool) (entries : List Entry) (acks : List Ack) (replies : List Reply) → AreOfEntries entries acks → AllHold over entries replies →
    list_all (is_acknowledged acks (reverse entries)) replies ≡ true
