-- Ends that meet and are closed, one after the other.
pub mod MeetLemmas
