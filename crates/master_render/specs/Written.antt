-- What a rendering wrote, and what its faults say of the counts.
use Rattle.std.specs.Prelude.{◌≡◌, List, ℕ, ◌++◌, Result, Ok, Err, OnOk, OnErr}
use Rattle.ses_io.specs.declared.errors.Failed.{Failed}
use Rattle.ses_io.specs.Faults.{failed}
use Rattle.ses_io.specs.Outside.{SinkOutside}
use Rattle.ses_io.specs.Streams.{AppendsSome}
use Rattle.master_render.specs.declared.fault.RenderFault.{RenderFault}
use Rattle.master_render.specs.declared.fault.RenderFault.TheVariants.{ReadFault, MasterFault, NoMemory}

-- Of some bytes that were to be written, a sink has all or a front.
pub record IsWritten {W : Type 0} (sink : SinkOutside W) (bytes : List ℕ) (old new : W) (result : Result (Unit {0}) RenderFault) : Type 0 where
  -- at Ok it holds what it held, and then exactly these
  pub all : OnOk result (sink.held new ≡ sink.held old ++ bytes)
  -- at each fault it gained a front of them
  pub front : OnErr result (AppendsSome (sink.held old) (sink.held new) bytes)

-- how the reads of a rendering ended: only a ReadFault is theirs
abbrev pub reading : Result (Unit {0}) RenderFault → Result (Unit {0}) Failed
reading (Ok v) = Ok v
reading (Err ReadFault) = Err failed
reading (Err MasterFault) = Ok tt
reading (Err NoMemory) = Ok tt

-- and its writes: only a MasterFault is theirs
abbrev pub writing : Result (Unit {0}) RenderFault → Result (Unit {0}) Failed
writing (Ok v) = Ok v
writing (Err ReadFault) = Ok tt
writing (Err MasterFault) = Err failed
writing (Err NoMemory) = Ok tt

-- the reader and the sink are as they were
abbrev pub IsUntouched : {F W : Type 0} → F → F → W → W → Type 0
IsUntouched reader reader_now sink sink_now = (reader_now ≡ reader) × (sink_now ≡ sink)
