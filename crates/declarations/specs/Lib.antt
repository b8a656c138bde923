pub mod Kept
pub mod Rows
pub mod Parts
