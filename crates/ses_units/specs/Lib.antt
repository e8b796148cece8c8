-- What the contracts of the small values cite.
pub mod Bits
pub mod Name
pub mod Mode
pub mod Shape
pub mod Point
pub mod Lane
pub mod Refusal
