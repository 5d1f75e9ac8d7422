pub mod Sheet
pub mod Form
pub mod Layout
