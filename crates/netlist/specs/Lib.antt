pub mod Answers
pub mod Decides
pub mod Digits
pub mod Judged
pub mod Parts
