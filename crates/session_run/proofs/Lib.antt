-- The lemmas of the top call.
pub mod StatusLemmas
pub mod OutLemmas
pub mod DoesLemmas
pub mod ReplyLemmas
pub mod RunLemmas
pub mod TopLemmas
pub mod MigratedLemmas
pub mod RenderLemmas
pub mod VerifyLemmas
mod CheckVectors
