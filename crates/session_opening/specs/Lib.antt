-- What the contracts cite.
pub mod Causes
pub mod Plan
pub mod Answers
pub mod Status
pub mod Sounds
pub mod Laws
