-- When edits are the history of a session, and what their changes say of its editions.
pub mod History
pub mod Judged
pub mod Laws
