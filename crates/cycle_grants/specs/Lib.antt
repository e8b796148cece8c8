-- What contracts see of the two ends of the ring of grants, and the laws of allowances and of patience.
pub mod Grants
pub mod Allowance
pub mod Allowed
pub mod Granting
pub mod Making
pub mod Patience
