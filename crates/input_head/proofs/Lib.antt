-- The proofs of what is read of a head that goes on as it may, of the channels, and worked values.
mod FrontLemmas
mod CutLemmas
mod WantedBytes
mod StepLemmas
mod WantedLemmas
mod InputVectors
