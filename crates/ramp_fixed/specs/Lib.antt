-- What the contracts of the gains cite.
pub mod Fades
pub mod Lines
pub mod Pieces
pub mod Even
pub mod LaneLaws
