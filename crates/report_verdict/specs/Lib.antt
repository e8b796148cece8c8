-- Which lines of a report stand, for a session and a master's file, and what it means that all do.
pub mod Master
pub mod Lines
pub mod Laws
