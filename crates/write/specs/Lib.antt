pub mod Wrote
pub mod Put
pub mod Pieces
pub mod Fits
pub mod Taken
pub mod Memory
pub mod Writes
pub mod Cases
