-- What contracts see of a track that is served, and what serving does.
pub mod Pass
pub mod Reader
pub mod SendProgress
pub mod Items
pub mod Serves
pub mod AllServes
