-- Where a run on one thread stands, and how its letters lead it on, whatever lines of control are still to come.
pub mod Standing
pub mod Leads
pub mod SerialLaws
pub mod Answered
pub mod Paced
pub mod Truth
