-- What the contracts cite.
pub mod Sums
pub mod Line
pub mod Gen
pub mod Files
pub mod Laws
