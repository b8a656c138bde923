pub mod Spelling
pub mod Sweep
pub mod Resolves
