pub mod Result
pub mod Places
pub mod Inside
