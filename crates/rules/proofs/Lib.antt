pub mod Made
pub mod Laws
pub mod Demands
pub mod Edges
