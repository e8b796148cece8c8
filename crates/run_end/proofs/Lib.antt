-- Why what a run leaves is true.
pub mod CountedLemmas
pub mod FaultLemmas
pub mod DepthLemmas
pub mod SameLemmas
pub mod LastTurnLemmas
pub mod DrainLemmas
pub mod JoinLemmas
pub mod PassLemmas
pub mod TakeLemmas
pub mod BackLemmas
pub mod HeardLemmas
pub mod PartLemmas
pub mod ReceivedLemmas
pub mod CutLemmas
pub mod MasteredLemmas
pub mod LeaveLemmas
