pub mod Stream
pub mod Inside
