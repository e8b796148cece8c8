-- What the contracts cite.
pub mod Words
pub mod Section
pub mod Values
pub mod Arrays
pub mod Lane
pub mod Fault
pub mod Parts
pub mod Text
pub mod TextViews
pub mod InRange
pub mod Says
pub mod Laws
