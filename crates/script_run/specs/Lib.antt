pub mod Line
pub mod Take
