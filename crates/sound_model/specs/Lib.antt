-- The definitions of the sound, from the bytes of a file to the master.
pub mod Numbers
pub mod Wav
pub mod Regions
pub mod Lanes
pub mod Layers
pub mod Routes
pub mod Reach
