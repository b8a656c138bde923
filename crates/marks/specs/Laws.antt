pub mod Exits
pub mod One
pub mod Chains
pub mod Lists
