pub mod Point
pub mod Exact
pub mod Cases
pub mod Inside
