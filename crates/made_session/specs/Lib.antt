-- What the contracts cite.
pub mod Each
pub mod Made
pub mod Tone
