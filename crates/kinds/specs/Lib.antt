pub mod Answer
pub mod Bytes
pub mod Kinds
pub mod Cases
