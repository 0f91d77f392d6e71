pub mod Touches
pub mod Changes
