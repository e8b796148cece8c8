-- What workers of a run on threads have before the first thread starts.
pub mod Ready
