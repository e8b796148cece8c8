-- What the contracts cite.
pub mod Verbs
pub mod Options
pub mod Words
pub mod Spoken
