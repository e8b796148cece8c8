-- The proofs of the laws and what the reading rests on.
pub mod FrameLaws
pub mod ByteLaws
pub mod SpanLaws
pub mod PairLaws
pub mod HeadLaws
pub mod StretchLaws
pub mod SourceLaws
pub mod SlotLaws
pub mod StoreLaws
pub mod PieceLaws
pub mod LineLaws
pub mod HeldLaws
