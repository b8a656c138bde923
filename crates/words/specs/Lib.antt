pub mod Capitals
pub mod Found
pub mod Onward
