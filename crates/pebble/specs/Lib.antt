pub mod Decimal
pub mod Printed
pub mod Enough
pub mod Front
pub mod Cases
