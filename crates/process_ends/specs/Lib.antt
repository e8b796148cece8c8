-- The ends of a run's rings as the process has them, how they meet the butler's, and how they are closed.
pub mod Ends
