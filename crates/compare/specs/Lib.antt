pub mod Match
pub mod Rest
pub mod Compared
