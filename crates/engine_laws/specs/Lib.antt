-- What the laws of the engine's definitions say, and the words that only they need.
pub mod Kept
pub mod Tracked
pub mod Entered
pub mod Marks
pub mod EditionLaws
pub mod OrderLaws
pub mod HeardLaws
pub mod NumbersLaws
pub mod JournalLaws
pub mod PlayedLaws
pub mod JournalInvariant
pub mod TruthLaws
pub mod MadeLaws
pub mod SerialLaws
