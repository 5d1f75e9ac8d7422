pub mod Line
pub mod Form
pub mod Inside
