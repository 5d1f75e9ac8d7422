pub mod Floats
pub mod Cases
pub mod Value
