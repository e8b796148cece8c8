-- Why a play on threads leaves what it says.
mod BeginLemmas
mod TieLemmas
mod MeetLemmas
mod RingLemmas
mod EndedLemmas
mod MetLemmas
mod LastLemmas
mod ControlLemmas
mod QuitLemmas
mod CycleLemmas
mod MasterLemmas
mod WaitLemmas
mod FrontLemmas
mod LineLemmas
mod PlayLemmas
