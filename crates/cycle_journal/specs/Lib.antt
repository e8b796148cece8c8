-- Entries as the definitions of the engine have them, the numbers of statuses, and the report of a run.
pub mod JournalView
pub mod Status
pub mod Report
pub mod RunReport
pub mod Page
