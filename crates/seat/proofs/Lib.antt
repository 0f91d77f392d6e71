pub mod Added
pub mod Removed
