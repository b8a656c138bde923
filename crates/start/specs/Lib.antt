pub mod First
pub mod Begins
