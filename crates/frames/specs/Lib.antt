pub mod Laid
pub mod Rows
pub mod Stands
pub mod Args
pub mod Runs
pub mod Lists
pub mod Ports
pub mod Fresh
