-- What the contract of the top call cites.
pub mod Tasks
pub mod Status
pub mod Migrated
pub mod Checked
pub mod Rendered
pub mod Verified
pub mod Replied
pub mod Headline
pub mod Carried
