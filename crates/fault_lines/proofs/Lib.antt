mod LineVectors
pub mod PieceLemmas
