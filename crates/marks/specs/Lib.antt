pub mod Keys
pub mod Marks
pub mod Room
pub mod Laws
