pub mod Numbers
pub mod Factors
pub mod Here
pub mod Taking
pub mod Pairs
pub mod Sizes
pub mod Loops
