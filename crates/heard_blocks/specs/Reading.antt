-- What reading for a block says of the media and the sources.
use Rattle.std.specs.Prelude.{Result, Ok, Err}
use Rattle.ses_io.specs.Outside.{MediaOutside}
use Rattle.audio_source.specs.declared.refusal.ReadFault as source
use Rattle.audio_source.specs.Lines.{SourcesState, HoldsAsRead}
use Rattle.heard_blocks.specs.declared.fault.HeardFault.{HeardFault}
use Rattle.heard_blocks.specs.declared.fault.HeardFault.TheVariants.{ReadFault, NoMemory}

-- the files are known, and each line that is held is as they have it
pub record IsTold {V : Type 0} (outside : MediaOutside V) (media : V) (sources : SourcesState) : Type 0 where
  pub tells : outside.tells
  pub lines : HoldsAsRead (outside.files media) sources

-- how the reads for a block ended: want of memory isn't theirs
abbrev pub reading : {A : Type 0} → Result A HeardFault → Result (Unit {0}) source.ReadFault
reading (Ok _) = Ok tt
reading (Err ReadFault) = Err (record {})
reading (Err NoMemory) = Ok tt
