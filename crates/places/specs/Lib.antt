pub mod Held
pub mod Bodies
pub mod Numbered
pub mod Starts
pub mod Handed
