-- A run that wasn't played, and what it leaves then.
use Rattle.std.specs.Prelude.{◌≡◌, ◌≢◌, ◌⊎◌, ◌≤◌, ℕ, List, [], ◌++◌, None}
use Rattle.ses_io.specs.Faults.{risen}
use Rattle.ses_io.specs.Outside.{MediaOutside, SourceOutside, SinkOutside, OnlyReads}
use Rattle.ses_io.specs.Streams.{AppendsSome}
use Rattle.ses_io.specs.declared.world.World.{World}
use Rattle.cycle_journal.specs.declared.status.Status.{Status}
use Rattle.cycle_journal.specs.declared.status.Status.TheVariants.{Session, SourceFile, ReadFault, InputFault, BadInput, NoMemory, TakesExist}
use Rattle.fault_lines.specs.Fault.{fault_line}
use Rattle.session_play.specs.declared.outcome.Outcome.{Outcome}
use Rattle.input_head.specs.Taken.{TakesNoData}

-- a status at which nothing is played
abbrev pub IsBeforePlay : Status → Type 0
IsBeforePlay (Session why) = Unit {0}
IsBeforePlay (SourceFile name why) = Unit {0}
IsBeforePlay (TakesExist name) = Unit {0}
IsBeforePlay (BadInput why) = Unit {0}
IsBeforePlay ReadFault = Unit {0}
IsBeforePlay InputFault = Unit {0}
IsBeforePlay NoMemory = Unit {0}
IsBeforePlay _ = ⊥

-- the input may have been read by then
abbrev pub IsAfterHead : Status → Type 0
IsAfterHead (BadInput why) = Unit {0}
IsAfterHead InputFault = Unit {0}
IsAfterHead NoMemory = Unit {0}
IsAfterHead _ = ⊥

-- A text was written whole.
pub record Gets {O : Type 0} (outs : SinkOutside O) (text : List ℕ) (old new : O) : Type 0 where
  pub held : outs.tells → outs.held new ≡ outs.held old ++ text
  -- no write failed
  pub fine : outs.faults new ≡ outs.faults old

-- A front of it was, and then a write failed.
pub record GetsAFront {O : Type 0} (outs : SinkOutside O) (text : List ℕ) (old new : O) : Type 0 where
  pub held : outs.tells → AppendsSome (outs.held old) (outs.held new) text
  pub rose : risen (outs.faults old) ≤ outs.faults new

-- A count of faults, where only this status says that it rose.
pub record CountsBefore (fault : Status) (before now : ℕ) (s : Status) : Type 0 where
  pub rose : s ≡ fault → risen before ≤ now
  pub same : s ≢ fault → now ≡ before

module _ {M I C W O : Type 0} where
  -- **Nothing before play.** The session, its sources, takes or the input are in the way, a read of them failed, or memory ran out.
  pub record IsUnplayed (media : MediaOutside M) (inputs : SourceOutside I) (outs : SinkOutside O) (old : World M I C W O) (new : Outcome M I C W O) : Type 0 where
    pub status : IsBeforePlay new.status
    -- no file has changed, and master and control are as they were
    pub files : OnlyReads media old.media new.world.media
    pub master : new.world.master ≡ old.master
    pub control : new.world.control ≡ old.control
    -- of the input the head was taken at most, and that only once nothing else was in the way
    pub input : inputs.tells → TakesNoData (inputs.left old.input) (inputs.left new.world.input)
    pub untouched : ¬ (IsAfterHead new.status) → new.world.input ≡ old.input
    -- out gets the line of the status alone, or a front of it where its count rose
    pub out : Gets outs (fault_line new.status) old.out new.world.out ⊎ GetsAFront outs (fault_line new.status) old.out new.world.out
    pub outs_later : outs.faults old.out ≤ outs.faults new.world.out
    -- each fault has its cause
    pub reads : CountsBefore ReadFault (media.read_faults old.media) (media.read_faults new.world.media) new.status
    pub inputs_are : CountsBefore InputFault (inputs.faults old.input) (inputs.faults new.world.input) new.status
    -- there is no journal, and no ring
    pub journal : new.journal ≡ None
    pub rings : new.rings.items ≡ []
    pub acks : new.acks ≡ None
    pub grants : new.grants ≡ None

  -- Out gets the line of a status, and the outcome has nothing else.
  pub record IsRefusal (outs : SinkOutside O) (status : Status) (world : World M I C W O) (new : Outcome M I C W O) : Type 0 where
    pub status_is : new.status ≡ status
    pub same : new.world ≡ record world { out = new.world.out }
    pub out : Gets outs (fault_line status) world.out new.world.out ⊎ GetsAFront outs (fault_line status) world.out new.world.out
    pub later : outs.faults world.out ≤ outs.faults new.world.out
    pub journal : new.journal ≡ None
    pub rings : new.rings.items ≡ []
    pub acks : new.acks ≡ None
    pub grants : new.grants ≡ None
