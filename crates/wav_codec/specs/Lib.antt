-- What the contracts of the codec cite.
pub mod Form
pub mod Samples
pub mod Refusal
pub mod Fields
pub mod Info
pub mod Kind
pub mod Progress
pub mod Step
