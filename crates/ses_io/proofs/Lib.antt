pub mod Results
pub mod Slices
pub mod Streams
pub mod Files
pub mod Stored
pub mod Lists
