-- Worked values of the definitions: each line computes, or the crate isn't proved.
pub mod Worked
mod EditionVectors
mod CommandVectors
mod SendVectors
mod JournalVectors
mod TruthVectors
mod TakeVectors
mod LineVectors
mod GrantVectors
mod MadeVectors
mod SoundVectors
mod MixedVectors
