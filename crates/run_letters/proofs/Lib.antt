-- Why a seed makes its letters.
pub mod SeedLemmas
