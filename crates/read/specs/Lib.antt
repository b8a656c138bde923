pub mod WasRead
pub mod Ahead
pub mod Loops
pub mod Body
pub mod Again
pub mod Guess
pub mod Round
