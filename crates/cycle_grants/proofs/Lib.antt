-- Why allowances and patience are kept.
pub mod GrantLemmas
pub mod AllowedLemmas
pub mod FullLemmas
pub mod CountLemmas
pub mod TryLemmas
pub mod GrantingLemmas
pub mod PaceLemmas
pub mod PatienceLemmas
pub mod WaitedLemmas
