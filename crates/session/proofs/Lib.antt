pub mod Shapes
pub mod Views
pub mod Edits
pub mod Examples
