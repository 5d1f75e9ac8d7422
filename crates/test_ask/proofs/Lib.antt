pub mod Calls
pub mod Rests
