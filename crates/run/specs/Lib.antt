pub mod Ran
pub mod Known
pub mod Going
pub mod Visits
pub mod Follows
pub mod Cases
