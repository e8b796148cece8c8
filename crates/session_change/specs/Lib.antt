-- What a change is to the definitions of the engine, and what it leaves.
pub mod Change
pub mod Laws
