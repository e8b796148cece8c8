-- Why a command isn't accepted, and how one rule is asked after another (own).
use Rattle.std.specs.Prelude.{ℕ, Bool, true, false, List, Option, Some, None, Result, Ok, Err}

-- what is full
pub data Bound : Type 0 where
  Edits : Bound
  Points : Bound
  Sends : Bound
  Regions : Bound

-- Names stand as their bytes. Which number or name a refusal has, each command says.
pub data Refusal : Type 0 where
  Limit : Bound → Refusal
  NoRoute : List ℕ → Refusal
  NotTrack : List ℕ → Refusal
  NotBus : List ℕ → Refusal
  NoSource : List ℕ → Refusal
  NoRegion : ℕ → Refusal
  RegionTwice : ℕ → Refusal
  NoInput : List ℕ → Refusal
  OnMaster : Refusal
  Gain : ℕ → Refusal
  Far : ℕ → Refusal
  LoopEmpty : Refusal
  NoLoop : Refusal
  NoPoint : ℕ → Refusal
  NoSend : List ℕ → Refusal
  Channels : List ℕ → Refusal
  Cycle : List ℕ → Refusal
  Fades : ℕ → Refusal

-- what is found, or the first refusal
abbrev pub Checked : Type 0 → Type 0
Checked A = Result A Refusal

infixl 10 ◌>>=◌
abbrev pub ◌>>=◌ : {A B : Type 0} → Checked A → (A → Checked B) → Checked B
(Ok x) >>= f = f x
(Err why) >>= f = Err why

-- a rule: where it is broken, the command is refused
abbrev pub refused_if : Bool → Refusal → Checked (Unit {0})
refused_if true why = Err why
refused_if false why = Ok tt

-- what isn't there is refused
abbrev pub found : {A : Type 0} → Refusal → Option A → Checked A
found why None = Err why
found why (Some x) = Ok x
