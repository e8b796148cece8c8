-- Letters, as they are written and as a seed makes them.
pub mod Events
pub mod Letters
