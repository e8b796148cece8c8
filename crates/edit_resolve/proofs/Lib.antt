-- What scans and walks find is what the definitions have; the words of refusals, worked.
pub mod StandingLemmas
mod ResolveVectors
mod TextVectors
