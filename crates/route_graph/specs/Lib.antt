-- When routes stand in order, and which of them lead back to themselves.
pub mod Cycles
pub mod Order
pub mod Places
pub mod Walks
pub mod Laws
