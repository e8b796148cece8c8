-- Lemmas on pages and lines; worked values: each report computes, or the crate isn't proved.
pub mod PageLemmas
pub mod ReportLemmas
mod ReportVectors
