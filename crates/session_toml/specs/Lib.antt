-- What the contracts cite.
pub mod Rules
pub mod Built
pub mod Apart
pub mod Session
pub mod Laws
