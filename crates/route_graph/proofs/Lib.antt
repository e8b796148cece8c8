-- The proofs of the laws and what the walks rest on.
pub mod CycleLaws
pub mod ClosingLaws
pub mod PlaceLaws
pub mod GraphLaws
pub mod WaitLaws
pub mod WalkLaws
pub mod SpreadLaws
pub mod ReachLaws
pub mod FeedLaws
pub mod PeelLaws
pub mod TestLaws
pub mod OrderLaws
