-- What a cycle does to the counts of faults, and to an input whose stream has no frames.
use Rattle.std.proofs.Common.{◌≡◌, ℕ, sym, ap, ◌∙◌, arith}
use Rattle.std.specs.Prelude.{min, Result, Ok, Err}
use Rattle.ses_io.specs.Faults.{HasCause}
use Rattle.ses_io.specs.Outside.{SourceOutside, SinkOutside}
use Rattle.input_blocks.specs.State.{InputState}
use Rattle.process_cycle.specs.declared.fault.CycleFault.{CycleFault}
use Rattle.process_cycle.specs.declared.fault.CycleFault.TheVariants.{InputFault, MasterFault}
use Rattle.process_cycle.specs.Cycles.{CycleReads, ReadsBlock}
use Rattle.process_cycle.specs.Looked.{Keeps}
use Rattle.process_cycle.specs.Playing.{IsPlaying}
use Rattle.process_cycle.specs.ProcessState.{Playing, ProcessState}
use Rattle.play_worker.specs.declared.told.Told.{Told}
use Rattle.play_worker.specs.Plays.{IsUnfailed}

-- a count that stands
pub none_failed : {T E : Type 0} (before now : ℕ) (x : T) → now ≡ before → HasCause {T = T} {E = E} before now (Ok x)
none_failed before now x is = record { later = omega (arith, is); kept = is; rose = tt }

-- with no frames nothing is left to read
idle_by : (done x frames : ℕ) → done ≡ min x frames → frames ≡ 0 → done ≡ frames
idle_by done x frames is none = omega (arith, is, none)

module _ {I W : Type 0} (inputs : SourceOutside I) where
  -- the stream stays
  pub reads_stream : (at : Playing) (old new : ProcessState I W) (result : Result (Unit {0}) CycleFault) → CycleReads inputs at old result new → new.input.stream ≡ old.input.stream
  reads_stream at old new (Ok x) reads = reads.stream
  reads_stream at old new (Err InputFault) reads = reads.stream
  reads_stream at old new (Err MasterFault) reads = reads.stream

  pub idle : (at : Playing) (p : ProcessState I W) → IsPlaying inputs at p → p.input.stream.frames ≡ 0 → p.input.done ≡ p.input.stream.frames
  idle at p playing none = idle_by p.input.done _ p.input.stream.frames playing.read.done none

  -- a look touches neither input nor master
  pub looked_input : (old looked : ProcessState I W) → Keeps old looked → looked.input ≡ old.input
  looked_input old looked keeps = ap (λ (p : ProcessState I W). p.input) keeps.same

  -- **A cycle that was made leaves both counts.**
  pub made_unfailed : (sinks : SinkOutside W) (told : Told I W) (at : Playing) (old looked new : ProcessState I W) → Keeps old looked → IsUnfailed inputs sinks told old → IsPlaying inputs at looked →
      ReadsBlock inputs at looked new → sinks.faults new.master.sink ≡ sinks.faults looked.master.sink → IsUnfailed inputs sinks told new
  made_unfailed sinks told at old looked new keeps was playing reads kept = let input = looked_input old looked keeps in record {
    input = reads.no_fault ∙ ap (λ (x : InputState I). inputs.faults x.input) input ∙ was.input;
    master = kept ∙ ap (λ (p : ProcessState I W). sinks.faults p.master.sink) keeps.same ∙ was.master;
    untouched = λ none. let before : looked.input.stream.frames ≡ 0 = ap (λ s. s.frames) (sym reads.stream) ∙ none in
        reads.ended (idle at looked playing before) ∙ ap (λ (x : InputState I). x.input) input ∙ was.untouched (ap (λ (x : InputState I). x.stream.frames) (sym input) ∙ before);
  }
