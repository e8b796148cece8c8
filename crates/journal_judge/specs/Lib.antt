-- What a judge keeps of a journal, and how it decides of the next entry.
pub mod Counts
pub mod Numbers
pub mod Judged
pub mod Noting
pub mod Deciding
