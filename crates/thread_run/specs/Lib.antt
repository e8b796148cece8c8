-- What a play on threads begins with, how its workers end and meet, and what it leaves.
pub mod Beginning
pub mod Joined
pub mod Met
pub mod Parting
pub mod Leaving
pub mod Playing
pub mod Fronts
