pub mod Task
pub mod Calls
pub mod Rounds
