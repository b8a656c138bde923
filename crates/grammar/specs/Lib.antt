pub mod Titles
pub mod Rows
pub mod Parts
pub mod Promise
