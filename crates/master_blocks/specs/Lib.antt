-- What contracts see of the master of a run, the bytes that it is given, and its law.
pub mod State
pub mod Bytes
pub mod Rolled
pub mod Laws
