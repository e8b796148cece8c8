-- What verify answers.
pub mod Verified
pub mod Laws
