mod AnsweredLemmas
mod HearLemmas
mod HeardLemmas
mod LeadLemmas
mod LineLemmas
mod LinkLemmas
mod SettleLemmas
