-- The letter of control, put together of what its calls do.
pub mod Shown
pub mod Letter
