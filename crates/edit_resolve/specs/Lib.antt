-- What an edit changes or which rule it breaks, and the words of refusals.
pub mod Reason
pub mod Texts
pub mod Resolves
pub mod Kinds
