pub mod Library
pub mod Digits
pub mod Beginnings
pub mod Places
pub mod Capitals
pub mod Table
