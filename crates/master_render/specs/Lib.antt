-- What the contracts of a rendered master cite.
pub mod Offline
pub mod Written
