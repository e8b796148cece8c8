-- Why patience and allowances are kept from cycle to cycle, and why the process's thread leaves what it promises.
pub mod PatientLemmas
pub mod KeptLemmas
pub mod CycleLemmas
pub mod FaultLemmas
pub mod PlaysLemmas
pub mod EndLemmas
pub mod MasterEndLemmas
pub mod LeaveLemmas
