-- How control's bytes are cut into lines, and what was read of them.
pub mod Begun
pub mod Lines
