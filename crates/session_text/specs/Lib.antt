-- What the contracts cite.
pub mod Tables
pub mod Parts
pub mod Said
pub mod Kept
pub mod Within
pub mod Session
pub mod Laws
