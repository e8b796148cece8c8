-- What a control line says, and the canonical line of an edit.
pub mod Words
pub mod Forms
pub mod Table
pub mod Kept
pub mod Reading
pub mod Rows
pub mod Printing
pub mod Laws
pub mod Refusals
