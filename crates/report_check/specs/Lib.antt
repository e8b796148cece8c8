-- What holding a report and a master against a session answers, and what is kept meanwhile.
pub mod Verdict
pub mod Laws
pub mod Reading
pub mod Checking
