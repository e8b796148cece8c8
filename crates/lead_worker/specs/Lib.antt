-- What control promises of its own lists, beside other workers.
pub mod Heard
pub mod Links
pub mod Leads
