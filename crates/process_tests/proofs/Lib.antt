-- Why a process on a bench may look, and how it stands then; the ends of its rings.
pub mod BenchLemmas
pub mod RingLemmas
