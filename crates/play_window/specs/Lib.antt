-- What was offered to a window, what it has, what its calls answer, and laws above them.
pub mod Offers
pub mod WindowState
pub mod Answers
pub mod Laws
