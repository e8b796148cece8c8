-- Why drained rings are given to the take files.
pub mod TapeLemmas
pub mod RingLemmas
pub mod MediaLemmas
pub mod AllLemmas
pub mod FirstLemmas
