pub mod Words
pub mod Factors
