-- What the steps of the workers do, one step after another, and which moves of the core machine they are.
use Rattle.std.specs.Prelude.{◌≡◌, ℕ, ◌+◌, ◌-◌, ◌*◌, ◌^◌, ◌<◌, Bool, true, false, ◌&&◌, not, nat_lt, if◌then◌else◌, ◌∷◌, [], ◌++◌, length, Result, Ok, Err, IfOk, OnOk}
use Rattle.std.specs.Prelude.{sum_by}
use Rattle.ses_io.specs.Outside.{MediaOutside}
use Rattle.session_model.specs.declared.session.Session.{Session}
use Rattle.session_model.specs.declared.edit.Edit.{Edit}
use Rattle.machine_model.specs.Core.{Core}
use Rattle.machine_model.specs.Events.{EnterProcess, after, have_looked, step}
use Rattle.machine_model.specs.Letters.{butler_moves, is_idle, gather_moves, ends_cycle}
use Rattle.edit_resolve.specs.declared.reason.Refusal.{Refusal}
use Rattle.read_ahead.specs.AllServes.{total_sent}
use Rattle.capture_drain.specs.Drains.{total_received}
use Rattle.butler.specs.declared.turning.Turn.{Turn}
use Rattle.butler.specs.declared.turning.Turn.TheVariants.{Moved, Idle}
use Rattle.butler.specs.declared.faults.ButlerFault.{ButlerFault}
use Rattle.butler.specs.ButlerState.{ButlerState}
use Rattle.butler.specs.Serving.{IsServing}
use Rattle.butler.specs.Turns.{Receives, TakesAreKept, AllSend, StaysTrue, Answers}
use Rattle.butler.specs.Faults.{Fails, KeepsRest}
use Rattle.process_cycle.specs.declared.fault.CycleFault.{CycleFault}
use Rattle.process_ends.specs.Ends.{EndsMeet}
use Rattle.worker_pair.specs.declared.ending.Ending.{Ending}
use Rattle.worker_pair.specs.declared.pair.Pair.{Pair}
use Rattle.worker_pair.specs.Begun.{At, served_at}
use Rattle.worker_pair.specs.Tied.{AreRingsOf, IsTied}

-- ---- a turn of the butler

abbrev pub is_idle_turn : Turn → Bool
is_idle_turn (Moved n) = false
is_idle_turn Idle = true

abbrev pub is_idle_answer : Result Turn ButlerFault → Bool
is_idle_answer (Ok turn) = is_idle_turn turn
is_idle_answer (Err fault) = false

-- A turn of the butler of at most one item, in the newest edition, as it is before the ends meet.
pub record IsTurned {V : Type 0} (media : MediaOutside V) (at : At) (e : Ending V) (answer : Result Turn ButlerFault) (b : ButlerState V) : Type 0 where
  pub serving : IsServing at.begun.session e.edition.edits b
  pub receives : Receives e.butler b
  pub takes : media.tells → TakesAreKept (served_at at) (media.files e.butler.media) (media.files b.media) e.butler b
  pub sends : AllSend at.begun.session e.edition e.butler b
  pub stays_true : media.tells → StaysTrue media (served_at at) e.edition e.butler b
  pub answers : Answers at.begun.session e.edition 1 e.butler answer b
  pub fails : Fails media e.butler answer b
  pub rest : KeepsRest media at.begun.session e.edition e.butler b

-- how much a butler may still do while no cycle is made: 2^62 items a track less all that was sent, the blocks that wait, and one for a read fault that may come
abbrev pub left_to_do : {V : Type 0} → Ending V → ℕ
left_to_do e = (length e.butler.ends.sends.items * 2 ^ 62 - total_sent e.butler.ends.sends.items)
    + ((sum_by (λ d. length d.sent) e.ends.takes.items - total_received e.butler.ends.takes.items) + (if e.butler.hushed then 0 else 1))

-- **A turn, and a meeting of the ends after it.** A turn that isn't Idle leaves less to do.
pub record Turns {V : Type 0} (media : MediaOutside V) (at : At) (old : Ending V) (answer : Result Turn ButlerFault) (new : Ending V) : Type 0 where
  -- the butler before the ends met
  pub butler : ButlerState V
  pub turn : IsTurned media at old answer butler
  pub met : EndsMeet old.ends butler.ends new.ends new.butler.ends
  pub same : new ≡ record { edition = old.edition; butler = record butler { ends = new.butler.ends }; ends = new.ends }
  pub less : is_idle_answer answer ≡ false → left_to_do new < left_to_do old

-- **A turn that nothing fails in is the letter B of the core machine**, and is Idle exactly where the machine is.
abbrev pub TurnsAsMachine : {V : Type 0} → Session → Ending V → Result Turn ButlerFault → Ending V → Type 0
TurnsAsMachine s old answer new = (c : Core) → AreRingsOf s c old → IfOk answer (λ turn. AreRingsOf s (after s old.butler.cycles c (butler_moves s old.butler.cycles c)) new
    × (is_idle_turn turn ≡ is_idle s old.butler.cycles c))

module _ {V I W : Type 0} where
  -- only butler and rings change
  abbrev pub TurnsOnly : Pair V I W → Pair V I W → Type 0
  TurnsOnly old new = new ≡ record old { butler = new.butler; process = record old.process { ends = new.process.ends } }

  -- the same of a pair: the journal stands
  abbrev pub PairTurnsAsMachine : Session → Pair V I W → Result Turn ButlerFault → Pair V I W → Type 0
  PairTurnsAsMachine s old answer new = (c : Core) → IsTied s c old → IfOk answer (λ turn. IsTied s (after s old.butler.cycles c (butler_moves s old.butler.cycles c)) new
      × (is_idle_turn turn ≡ is_idle s old.butler.cycles c))

  -- ---- an edit

  -- An edit that is accepted is published, and one that is refused changes nothing.
  abbrev pub PublishesAsMachine : Session → Pair V I W → Edit → Result ℕ Refusal → Pair V I W → Type 0
  PublishesAsMachine s old edit (Ok number) new = (c : Core) → IsTied s c old → IsTied s (record c { edits = c.edits ++ edit ∷ [] }) new
  PublishesAsMachine s old edit (Err why) new = new ≡ old

  -- ---- the process

  -- it may enter: no cycle is open, not all were made, and it hasn't entered a quit
  abbrev pub may_enter : Pair V I W → Bool
  may_enter p = not p.in_cycle && nat_lt (length p.process.journal.items) p.process.journal.room && not p.playing.transport.quit

  -- **The process enters the newest edition where it may**, and a cycle is open then unless that edition has quit.
  pub record Enters (old new : Pair V I W) : Type 0 where
    pub same : new ≡ record old { playing = new.playing; in_cycle = new.in_cycle }
    pub stays : may_enter old ≡ false → new ≡ old
    pub newest : may_enter old ≡ true → new.playing.edits ≡ old.edition.edits
    pub opens : may_enter old ≡ true → new.in_cycle ≡ not new.playing.transport.quit

  -- This is the letter E.
  abbrev pub EntersAsMachine : Session → Pair V I W → Pair V I W → Type 0
  EntersAsMachine s old new = (c : Core) → IsTied s c old → IsTied s (step s old.butler.cycles c EnterProcess) new

  -- **A look is the look-ups of the letter G**, where a cycle is open: each track's is over then.
  abbrev pub LooksAsMachine : Session → Pair V I W → Pair V I W → Type 0
  LooksAsMachine s old new = (c : Core) → IsTied s c old → let d = after s old.butler.cycles c (gather_moves s old.butler.cycles c) in IsTied s d new × (have_looked s d ≡ true)

  -- **What follows a look is the rest of the letter P**: tracks are captured, the entry is made, and acknowledged.
  abbrev pub EndsAsMachine : Session → Pair V I W → Result (Unit {0}) CycleFault → Pair V I W → Type 0
  EndsAsMachine s old answer new = (c : Core) → IsTied s c old → have_looked s c ≡ true → OnOk answer (IsTied s (after s old.butler.cycles c (ends_cycle s c)) new)
