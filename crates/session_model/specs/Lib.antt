-- What a session is and when it is valid, and how it is seen by the definitions of the sound.
pub mod Region
pub mod Playlist
pub mod Starts
pub mod FileName
pub mod Frames
pub mod MemFrames
pub mod Views
pub mod Lists
pub mod Formed
pub mod Valid
pub mod Tests
pub mod Laws
