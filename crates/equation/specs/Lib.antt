pub mod Powers
pub mod Equation
pub mod Exact
pub mod Room
pub mod Inside
