-- What contracts see of the published list, and what is shared of it.
pub mod Shared
pub mod Rule
pub mod Lists
pub mod Answers
