-- Items, blocks and acknowledgements as the definitions of the engine have them, and empty boxes.
pub mod Views
pub mod Blanks
pub mod Silence
