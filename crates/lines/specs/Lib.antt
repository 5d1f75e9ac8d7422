pub mod Asked
pub mod Edges
pub mod Answered
