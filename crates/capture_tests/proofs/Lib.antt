-- Why a butler on a bench may begin and go on.
mod BenchLemmas
mod RingLemmas
