pub mod Layout
pub mod Kinds
pub mod Encoding
pub mod Written
pub mod Lies
pub mod Example
pub mod Resolved
