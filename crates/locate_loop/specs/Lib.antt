-- How a transport is seen by the definitions of the engine.
pub mod Transport
