-- Lemmas of blocks and of what routes give.
pub mod BlockLemmas
pub mod RouteLemmas
pub mod GivenLemmas
pub mod GivingLemmas
pub mod FaderLemmas
pub mod QuietLemmas
pub mod MixLemmas
pub mod DeskLemmas
