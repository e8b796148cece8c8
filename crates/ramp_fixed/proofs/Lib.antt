-- Lemmas of the gains.
pub mod LaneLaws
pub mod Lines
pub mod Parts
pub mod FadeValues
pub mod LanePieces
pub mod LanePlaces
pub mod EvenLanes
