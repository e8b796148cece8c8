-- The proofs of the laws.
pub mod Cases
pub mod NumberLaws
pub mod FadeLaws
mod LaneLaws
mod DeskLaws
mod DepthLaws
pub mod CycleLaws
pub mod ReachLaws
pub mod ChannelLaws
mod PlainLaws
mod WalkLaws
mod HeadLaws
pub mod WrittenLaws
mod ExtensibleLaws
mod SoundLaws
pub mod LayerLaws
mod SilenceLaws
