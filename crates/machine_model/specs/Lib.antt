-- The core machine: its state, its events, its letters, and how a run goes on serially.
pub mod Core
pub mod Events
pub mod Control
pub mod Letters
pub mod Rest
